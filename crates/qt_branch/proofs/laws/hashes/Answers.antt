use Rattle.std.proofs.Common.{ap}
use Rattle.qt_branch.specs.Parts.{told}
use Rattle.qt_branch.proofs.Same.{same_decided}
use Rattle.qt_branch.proofs.laws.hashes.Goals as goal

pub returns : goal.returns
returns c = λ a b h. ap told ((same_decided a b).0 h)
