use Rattle.qt_mass.proofs.Masses.{mass_zero_state}
use Rattle.qt_mass.proofs.laws.beginning.Goals as goal

pub returns : goal.returns
returns c = mass_zero_state
