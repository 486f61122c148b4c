use Rattle.std.proofs.Common.{[], ◌∷◌, ap}
use Rattle.qt_instructions.specs.declared.instruction.Instr.TheVariants as instr
use Rattle.qt_emit_expressions.proofs.Adding.{becomes, chain}
use Rattle.qt_emit_loops.proofs.counts.more.Goals as goal

pub returns : goal.returns
returns c =
    rw (← c.on_counts.ensures) (chain _ _ _ _ _ c.in_ok-put.ensures
    (chain _ _ _ _ _ (becomes _ _ _ _ (ap (λ n. instr.Load 1 n ∷ []) c.from.ensures) c.in_ok-put-2.ensures) c.in_ok-put-3.ensures))
