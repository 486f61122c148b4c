use Rattle.qt_ring.proofs.Units.{units_keep, root_unit, epsilon_unit, epsilon_inverse_unit, epsilon_times_inverse}
use Rattle.qt_ring.proofs.laws.units.Goals as goal

pub returns-clause-roots : goal.returns-clause-roots
returns-clause-roots c = root_unit

pub returns-clause-epsilon : goal.returns-clause-epsilon
returns-clause-epsilon c = epsilon_unit

pub returns-clause-epsilon_inverse : goal.returns-clause-epsilon_inverse
returns-clause-epsilon_inverse c = epsilon_inverse_unit

pub returns-clause-divisors : goal.returns-clause-divisors
returns-clause-divisors c = units_keep

pub returns-clause-inverses : goal.returns-clause-inverses
returns-clause-inverses c = epsilon_times_inverse
