use Rattle.qt_ring.proofs.RingLaws.{plus_comm, plus_assoc, plus-nil, plus-minus}
use Rattle.qt_ring.proofs.laws.sums.Goals as goal

pub returns-clause-commutative : goal.returns-clause-commutative
returns-clause-commutative c = plus_comm

pub returns-clause-associative : goal.returns-clause-associative
returns-clause-associative c = plus_assoc

pub returns-clause-zero : goal.returns-clause-zero
returns-clause-zero c = plus-nil

pub returns-clause-opposite : goal.returns-clause-opposite
returns-clause-opposite c = plus-minus
