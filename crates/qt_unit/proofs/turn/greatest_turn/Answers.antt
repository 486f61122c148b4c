use Rattle.std.proofs.Common.{arith, ap}
use Rattle.qt_ring.specs.Wide.{number_of}
use Rattle.qt_canon_laws.proofs.Order.{not_both}
use Rattle.qt_canon_laws.proofs.Greatest.{best_begins, best_better, best_stays, best_ends, best_same}
use Rattle.qt_unit.proofs.turn.greatest_turn.Goals.{then-is_greater, else-is_greater}
use Rattle.qt_unit.proofs.turn.greatest_turn.Goals as goal

pub loop-other-init : goal.loop-other-init
loop-other-init c = best_begins _

pub loop-other-preserved : goal.loop-other-preserved
loop-other-preserved c = elim c.if-is_greater.branch [
  | then-is_greater w ↦ best_same _ _ _ _ _ _ w.turns-is (ap number_of w.best-is) (best_better _ _ _ _ _ c.loop-other-test.true c.turned_by-next.ensures.value (c.is_greater.ensures.0 w.if-is_greater.true) c.loop-other.invariant)
  | else-is_greater w ↦ best_same _ _ _ _ _ _ w.turns-is (ap number_of w.best-is) (best_stays _ _ _ _ _ c.loop-other-test.true c.turned_by-next.ensures.value (λ g. not_both c.is_greater.result w.if-is_greater.false (c.is_greater.ensures.1 g)) c.loop-other.invariant)
]

pub returns-clause-greatest : goal.returns-clause-greatest
returns-clause-greatest c = best_ends _ _ _ _ (omega (arith, c.loop-other.invariant.few)) c.loop-other.invariant
