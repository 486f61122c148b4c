use Rattle.qt_root2.proofs.Ring.{times_comm, times_assoc, times-one}
use Rattle.qt_root2.proofs.laws.products.Goals as goal

pub returns-clause-commutative : goal.returns-clause-commutative
returns-clause-commutative c = times_comm

pub returns-clause-associative : goal.returns-clause-associative
returns-clause-associative c = times_assoc

pub returns-clause-one : goal.returns-clause-one
returns-clause-one c = times-one
