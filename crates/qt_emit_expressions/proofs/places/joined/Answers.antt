use Rattle.qt_emit_expressions.proofs.Adding.{chain}
use Rattle.qt_emit_expressions.proofs.places.joined.Goals as goal

pub returns : goal.returns
returns c = rw (← c.on_places.ensures, ← c.on_places-2.ensures) (chain _ _ _ _ _ c.in_ok-put.ensures c.in_ok-put-2.ensures)
