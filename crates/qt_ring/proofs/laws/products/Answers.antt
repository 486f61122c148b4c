use Rattle.qt_ring.proofs.RingLaws.{times_comm, times_assoc, times-one, times-plus}
use Rattle.qt_ring.proofs.Dividing.{times_two}
use Rattle.qt_ring.proofs.laws.products.Goals as goal

pub returns-clause-commutative : goal.returns-clause-commutative
returns-clause-commutative c = times_comm

pub returns-clause-associative : goal.returns-clause-associative
returns-clause-associative c = times_assoc

pub returns-clause-one : goal.returns-clause-one
returns-clause-one c = times-one

pub returns-clause-distributive : goal.returns-clause-distributive
returns-clause-distributive c = times-plus

pub returns-clause-two : goal.returns-clause-two
returns-clause-two c = times_two
