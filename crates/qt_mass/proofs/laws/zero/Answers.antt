use Rattle.qt_mass.proofs.Masses.{vanishing_mass, mass_zero_only}
use Rattle.qt_mass.proofs.laws.zero.Goals as goal

pub returns : goal.returns
returns c = λ s. (vanishing_mass s, mass_zero_only s)
