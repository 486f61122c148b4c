use Rattle.qt_emit_expressions.proofs.Adding.{chain}
use Rattle.qt_emit_loops.proofs.keeping.range_kept.Goals as goal

pub returns : goal.returns
returns c =
    rw (← c.in_ok-next.ensures, ← c.in_ok-step.ensures, ← c.in_ok-left.ensures)
    (chain _ _ _ _ _ c.in_ok-put.ensures (chain _ _ _ _ _ c.in_ok-put-2.ensures c.in_ok-put-3.ensures))
