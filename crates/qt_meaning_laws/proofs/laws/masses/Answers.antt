use Rattle.qt_meaning_laws.proofs.LeafMasses.{mass_is_kept, mass_goes_through}
use Rattle.qt_meaning_laws.proofs.laws.masses.Goals as goal

pub returns-clause-kept : goal.returns-clause-kept
returns-clause-kept c = mass_is_kept

pub returns-clause-through : goal.returns-clause-through
returns-clause-through c = mass_goes_through
