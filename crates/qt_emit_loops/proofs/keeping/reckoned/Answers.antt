use Rattle.qt_emit_expressions.proofs.Adding.{chain}
use Rattle.qt_emit_loops.proofs.keeping.reckoned.Goals as goal

pub returns : goal.returns
returns c =
    chain _ _ _ _ _ c.in_ok-put.ensures (chain _ _ _ _ _ c.in_ok-counted.ensures c.in_ok-counted-2.ensures)
