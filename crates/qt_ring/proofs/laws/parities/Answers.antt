use Rattle.qt_ring.proofs.Dividing.{two_multiple, two_divisor, root_two_multiple, root_two_divisor, one_minus_omega_multiple, one_minus_omega_divisor}
use Rattle.qt_ring.proofs.laws.parities.Goals as goal

pub returns-clause-two : goal.returns-clause-two
returns-clause-two c = λ x. (two_multiple x, two_divisor x)

pub returns-clause-root_two : goal.returns-clause-root_two
returns-clause-root_two c = λ x. (root_two_multiple x, λ p. root_two_divisor x p.0 p.1)

pub returns-clause-one_minus_omega : goal.returns-clause-one_minus_omega
returns-clause-one_minus_omega c = λ x. (one_minus_omega_multiple x, one_minus_omega_divisor x)
