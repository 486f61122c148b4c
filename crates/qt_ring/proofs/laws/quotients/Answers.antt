use Rattle.qt_ring.proofs.Units.{no_zero_divisors, cancelled}
use Rattle.qt_ring.proofs.laws.quotients.Goals as goal

pub returns-clause-no_zero_divisors : goal.returns-clause-no_zero_divisors
returns-clause-no_zero_divisors c = no_zero_divisors

pub returns-clause-unique : goal.returns-clause-unique
returns-clause-unique c = cancelled
