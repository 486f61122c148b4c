use Rattle.std.proofs.Common.{[], ◌∷◌, ap}
use Rattle.qt_instructions.specs.declared.instruction.Instr.TheVariants as instr
use Rattle.qt_emit_expressions.proofs.Adding.{becomes, chain}
use Rattle.qt_emit_storing.proofs.steps.with_number.Goals as goal

pub returns : goal.returns
returns c =
    rw (← c.on_places.ensures)
    (chain _ _ _ _ _ (becomes _ _ _ _ (ap (λ n. instr.Load c.args.other n ∷ []) c.from.ensures) c.in_ok-put.ensures) c.in_ok-put-2.ensures)
