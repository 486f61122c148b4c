use Rattle.std.proofs.Common.{[], refl, arith}
use Rattle.qt_ring.specs.Ring.{times, two_to, root_two}
use Rattle.qt_canon_laws.proofs.Order.{not_both}
use Rattle.qt_canon_laws.proofs.Smooth.{two_to_not_nil}
use Rattle.qt_canon.proofs.Divisors.{by_second, by_both}
use Rattle.qt_canon.proofs.Entries.{divides_at, divides_more, divides_taken}
use Rattle.qt_canon.proofs.search.root_two_divides_all.Goals as goal

pub loop-entry-init : goal.loop-entry-init
loop-entry-init c = ([], refl)

pub over_twos-requires-clause-whole : goal.over_twos-requires-clause-whole
over_twos-requires-clause-whole c = divides_at (two_to c.args.twos) c.args.entries.now c.loop-entry.entry-index _ c.loop-entry-test.true c.requires.whole

pub returns-then-not-root_two_divides : goal.returns-then-not-root_two_divides
returns-then-not-root_two_divides c = (
  (λ t. absurd (cc)),
  (λ h. absurd (not_both c.root_two_divides.result c.if-not-root_two_divides.true (c.root_two_divides.ensures.1 (by_second (two_to c.args.twos) root_two _ _ (two_to_not_nil c.args.twos) c.over_twos.ensures.value (divides_at (times (two_to c.args.twos) root_two) c.args.entries.now c.loop-entry.entry-index _ c.loop-entry-test.true h))))),
)

pub loop-entry-preserved : goal.loop-entry-preserved
loop-entry-preserved c = divides_more (times (two_to c.args.twos) root_two) c.args.entries.now c.loop-entry.entry-index _ c.loop-entry-test.true c.loop-entry.invariant
    (by_both (two_to c.args.twos) root_two _ _ c.over_twos.ensures.value (c.root_two_divides.ensures.0 c.if-not-root_two_divides.false))

pub returns : goal.returns
returns c = ((λ t. divides_taken (times (two_to c.args.twos) root_two) c.args.entries.now c.loop-entry.entry-index (omega arith) c.loop-entry.invariant), (λ h. refl))
