use Rattle.qt_emit_expressions.proofs.Adding.{chain}
use Rattle.qt_emit_loops.proofs.counts.counted.Goals as goal

pub returns : goal.returns
returns c =
    rw (← c.on_counts.ensures) (chain _ _ _ _ _ c.in_ok-put.ensures (chain _ _ _ _ _ c.in_ok-put-2.ensures
    (chain _ _ _ _ _ c.in_ok-put-3.ensures c.in_ok-put-4.ensures)))
