use Rattle.qt_branch.proofs.Same.{same_decided}
use Rattle.qt_branch.proofs.laws.equality.Goals as goal

pub returns : goal.returns
returns c = same_decided
