use Rattle.qt_run.proofs.Chances.{one_distribution}
use Rattle.qt_run.proofs.laws.one_distribution.Goals as goal

pub returns : goal.returns
returns c = one_distribution
