use Rattle.qt_mass.proofs.Masses.{project_masses}
use Rattle.qt_mass.proofs.laws.outcomes.Goals as goal

pub returns : goal.returns
returns c = project_masses
