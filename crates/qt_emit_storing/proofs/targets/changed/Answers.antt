use Rattle.qt_emit_expressions.proofs.Adding.{chain}
use Rattle.qt_emit_storing.proofs.targets.changed.Goals as goal

pub returns : goal.returns
returns c = rw (← c.op_type.ensures.value, ← c.or_bool.ensures) (chain _ _ _ _ _ c.in_ok-put.ensures c.in_ok-put-2.ensures)
