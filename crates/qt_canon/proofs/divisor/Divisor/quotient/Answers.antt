use Rattle.qt_ring.specs.Ring.{one_minus_omega}
use Rattle.qt_canon_laws.specs.Powers.{once}
use Rattle.qt_canon.specs.EvenDivisors.{even_divisor}
use Rattle.qt_canon.proofs.Divisors.{even_divisor_not_nil, by_first, by_second, both_quotient, divides_with, quotient_with, quotient_without}
use Rattle.qt_canon.proofs.divisor.Divisor.quotient.Goals as goal

pub even_quotient-rest-requires-clause-whole : goal.even_quotient-rest-requires-clause-whole
even_quotient-rest-requires-clause-whole c = by_first (even_divisor c.args.self.twos c.args.self.has_root_two) (once one_minus_omega c.args.self.has_one_minus_omega) c.args.x c.requires.whole

pub over_one_minus_omega-requires-clause-whole : goal.over_one_minus_omega-requires-clause-whole
over_one_minus_omega-requires-clause-whole c = by_second (even_divisor c.args.self.twos c.args.self.has_root_two) one_minus_omega c.args.x _ (even_divisor_not_nil c.args.self.twos c.args.self.has_root_two) c.even_quotient-rest.ensures.value (divides_with (even_divisor c.args.self.twos c.args.self.has_root_two) one_minus_omega c.args.x c.args.self.has_one_minus_omega c.if-self.true c.requires.whole)

pub returns-then-self-clause-value : goal.returns-then-self-clause-value
returns-then-self-clause-value c = quotient_with (even_divisor c.args.self.twos c.args.self.has_root_two) one_minus_omega c.args.x _ c.args.self.has_one_minus_omega c.if-self.true (both_quotient (even_divisor c.args.self.twos c.args.self.has_root_two) one_minus_omega c.args.x _ _ c.even_quotient-rest.ensures.value c.over_one_minus_omega.ensures.value)

pub returns-else-self-clause-value : goal.returns-else-self-clause-value
returns-else-self-clause-value c = quotient_without (even_divisor c.args.self.twos c.args.self.has_root_two) one_minus_omega c.args.x _ c.args.self.has_one_minus_omega c.if-self.false c.even_quotient-rest.ensures.value
