use Rattle.qt_meaning_laws.proofs.Unitary.{calls_are_unitary, calls_have_their_size}
use Rattle.qt_meaning_laws.proofs.StateMasses.{unitaries_keep_mass, flips_keep_mass}
use Rattle.qt_meaning_laws.proofs.Standard.{standard_gates_fit}
use Rattle.qt_meaning_laws.proofs.laws.gates.Goals as goal

pub returns-clause-unitary : goal.returns-clause-unitary
returns-clause-unitary c = calls_are_unitary

pub returns-clause-sizes : goal.returns-clause-sizes
returns-clause-sizes c = calls_have_their_size

pub returns-clause-masses : goal.returns-clause-masses
returns-clause-masses c = unitaries_keep_mass

pub returns-clause-flips : goal.returns-clause-flips
returns-clause-flips c = flips_keep_mass

pub returns-clause-standard : goal.returns-clause-standard
returns-clause-standard c = standard_gates_fit
