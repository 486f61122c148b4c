use Rattle.qt_ring.specs.Wide.{number_of}
use Rattle.qt_canon_laws.proofs.Greatest.{Best}
use Rattle.qt_unit.proofs.turn.greatest_turn.Given as goal

abbrev pub invariant-loop-other : goal.invariant-loop-other
invariant-loop-other l = Best (number_of l.fn.x) l.other l.turns (number_of l.best)
