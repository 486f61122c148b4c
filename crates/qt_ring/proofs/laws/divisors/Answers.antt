use Rattle.qt_ring.proofs.Units.{root_two_squared, one_minus_omega_in_root_two, two_in_root_two, root_two_in_one_minus_omega}
use Rattle.qt_ring.proofs.laws.divisors.Goals as goal

pub returns-clause-root_two : goal.returns-clause-root_two
returns-clause-root_two c = root_two_squared

pub returns-clause-one_minus_omega : goal.returns-clause-one_minus_omega
returns-clause-one_minus_omega c = one_minus_omega_in_root_two

pub returns-clause-of_root_two : goal.returns-clause-of_root_two
returns-clause-of_root_two c = two_in_root_two

pub returns-clause-of_one_minus_omega : goal.returns-clause-of_one_minus_omega
returns-clause-of_one_minus_omega c = root_two_in_one_minus_omega
