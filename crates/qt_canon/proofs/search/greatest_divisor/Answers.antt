use Rattle.qt_ring.specs.Ring.{two_to, root_two, one_minus_omega}
use Rattle.qt_canon_laws.proofs.Order.{not_both}
use Rattle.qt_canon.specs.EvenDivisors.{even_divisor}
use Rattle.qt_canon.proofs.Divisors.{all_with}
use Rattle.qt_canon.proofs.search.greatest_divisor.Goals as goal

pub one_minus_omega_divides_all-has_one_minus_omega-requires-clause-whole : goal.one_minus_omega_divides_all-has_one_minus_omega-requires-clause-whole
one_minus_omega_divides_all-has_one_minus_omega-requires-clause-whole c =
    all_with (two_to c.greatest_twos-twos.result) root_two c.args.entries.now c.root_two_divides_all-has_root_two.result c.greatest_twos-twos.ensures.whole c.root_two_divides_all-has_root_two.ensures.0

pub returns : goal.returns
returns c =
    let t = c.greatest_twos-twos.result in
    let r = c.root_two_divides_all-has_root_two.result in
    let s = c.one_minus_omega_divides_all-has_one_minus_omega.result in
    record {
      whole = all_with (even_divisor t r) one_minus_omega c.args.entries.now s (all_with (two_to t) root_two c.args.entries.now r c.greatest_twos-twos.ensures.whole c.root_two_divides_all-has_root_two.ensures.0) c.one_minus_omega_divides_all-has_one_minus_omega.ensures.0;
      twos = c.greatest_twos-twos.ensures.greatest;
      no_root_two = λ e d. not_both r e (c.root_two_divides_all-has_root_two.ensures.1 d);
      no_one_minus_omega = λ e d. not_both s e (c.one_minus_omega_divides_all-has_one_minus_omega.ensures.1 d);
    }
