use Rattle.qt_kernel.proofs.Words.{twice_is, twice_fourfold}
use Rattle.qt_kernel.proofs.pairs.twice.Goals as goal

pub returns-clause-value : goal.returns-clause-value
returns-clause-value c = twice_is c.args.x _ c.add.ensures

pub returns-clause-size : goal.returns-clause-size
returns-clause-size c = twice_fourfold c.args.x _ c.requires c.add.ensures
