use Rattle.qt_ring.specs.Ring.{the_omega, one_minus_omega, epsilon, two_to}
use Rattle.qt_canon_laws.proofs.Smooth.{smooth-omega, smooth-one_minus_omega, smooth-epsilon, smooth-two}
use Rattle.qt_canon_laws.proofs.Forms.{multiples_same}
use Rattle.qt_canon_laws.proofs.laws.multiples.Goals as goal

pub returns-clause-by_omega : goal.returns-clause-by_omega
returns-clause-by_omega c = λ v u w k l a b. multiples_same the_omega v u w k l smooth-omega a b

pub returns-clause-by_one_minus_omega : goal.returns-clause-by_one_minus_omega
returns-clause-by_one_minus_omega c = λ v u w k l a b. multiples_same one_minus_omega v u w k l smooth-one_minus_omega a b

pub returns-clause-by_epsilon : goal.returns-clause-by_epsilon
returns-clause-by_epsilon c = λ v u w k l a b. multiples_same epsilon v u w k l smooth-epsilon a b

pub returns-clause-by_two : goal.returns-clause-by_two
returns-clause-by_two c = λ v u w k l a b. multiples_same (two_to 1) v u w k l smooth-two a b
