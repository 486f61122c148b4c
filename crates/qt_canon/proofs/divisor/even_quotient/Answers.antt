use Rattle.qt_ring.specs.Ring.{two_to, root_two}
use Rattle.qt_canon_laws.specs.Powers.{once}
use Rattle.qt_canon_laws.proofs.Smooth.{two_to_not_nil}
use Rattle.qt_canon.proofs.Divisors.{by_first, by_second, both_quotient, divides_with, quotient_with, quotient_without}
use Rattle.qt_canon.proofs.divisor.even_quotient.Goals as goal

pub over_twos-rest-requires-clause-whole : goal.over_twos-rest-requires-clause-whole
over_twos-rest-requires-clause-whole c = by_first (two_to c.args.twos) (once root_two c.args.has_root_two) c.args.x c.requires.whole

pub over_root_two-requires-clause-whole : goal.over_root_two-requires-clause-whole
over_root_two-requires-clause-whole c = by_second (two_to c.args.twos) root_two c.args.x _ (two_to_not_nil c.args.twos) c.over_twos-rest.ensures.value (divides_with (two_to c.args.twos) root_two c.args.x c.args.has_root_two c.if-has_root_two.true c.requires.whole)

pub returns-then-has_root_two-clause-value : goal.returns-then-has_root_two-clause-value
returns-then-has_root_two-clause-value c = quotient_with (two_to c.args.twos) root_two c.args.x _ c.args.has_root_two c.if-has_root_two.true (both_quotient (two_to c.args.twos) root_two c.args.x _ _ c.over_twos-rest.ensures.value c.over_root_two.ensures.value)

pub returns-else-has_root_two-clause-value : goal.returns-else-has_root_two-clause-value
returns-else-has_root_two-clause-value c = quotient_without (two_to c.args.twos) root_two c.args.x _ c.args.has_root_two c.if-has_root_two.false c.over_twos-rest.ensures.value
