use Rattle.std.proofs.Common.{[], refl, arith}
use Rattle.qt_ring.specs.Ring.{times, one_minus_omega}
use Rattle.qt_canon_laws.proofs.Order.{not_both}
use Rattle.qt_canon.specs.EvenDivisors.{even_divisor}
use Rattle.qt_canon.proofs.Divisors.{even_divisor_not_nil, by_second, by_both}
use Rattle.qt_canon.proofs.Entries.{divides_at, divides_more, divides_taken}
use Rattle.qt_canon.proofs.search.one_minus_omega_divides_all.Goals as goal

pub loop-entry-init : goal.loop-entry-init
loop-entry-init c = ([], refl)

pub even_quotient-requires-clause-whole : goal.even_quotient-requires-clause-whole
even_quotient-requires-clause-whole c = divides_at (even_divisor c.args.twos c.args.has_root_two) c.args.entries.now c.loop-entry.entry-index _ c.loop-entry-test.true c.requires.whole

pub returns-then-not-one_minus_omega_divides : goal.returns-then-not-one_minus_omega_divides
returns-then-not-one_minus_omega_divides c = (
  (λ t. absurd (cc)),
  (λ h. absurd (not_both c.one_minus_omega_divides.result c.if-not-one_minus_omega_divides.true (c.one_minus_omega_divides.ensures.1 (by_second (even_divisor c.args.twos c.args.has_root_two) one_minus_omega _ _ (even_divisor_not_nil c.args.twos c.args.has_root_two) c.even_quotient.ensures.value (divides_at (times (even_divisor c.args.twos c.args.has_root_two) one_minus_omega) c.args.entries.now c.loop-entry.entry-index _ c.loop-entry-test.true h))))),
)

pub loop-entry-preserved : goal.loop-entry-preserved
loop-entry-preserved c = divides_more (times (even_divisor c.args.twos c.args.has_root_two) one_minus_omega) c.args.entries.now c.loop-entry.entry-index _ c.loop-entry-test.true c.loop-entry.invariant
    (by_both (even_divisor c.args.twos c.args.has_root_two) one_minus_omega _ _ c.even_quotient.ensures.value (c.one_minus_omega_divides.ensures.0 c.if-not-one_minus_omega_divides.false))

pub returns : goal.returns
returns c = ((λ t. divides_taken (times (even_divisor c.args.twos c.args.has_root_two) one_minus_omega) c.args.entries.now c.loop-entry.entry-index (omega arith) c.loop-entry.invariant), (λ h. refl))
