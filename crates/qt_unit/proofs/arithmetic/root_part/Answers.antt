use Rattle.qt_unit.proofs.Products.{root_is, root_size}
use Rattle.qt_unit.proofs.arithmetic.root_part.Goals as goal

pub returns-clause-value : goal.returns-clause-value
returns-clause-value c = root_is c.args.x c.combined.result c.sum.result c.difference.result c.requires c.combined.ensures.size c.sum.ensures.size c.difference.ensures.size c.combined.ensures.value c.sum.ensures.value c.difference.ensures.value

pub returns-clause-size : goal.returns-clause-size
returns-clause-size c = root_size c.args.x _ c.requires (root_is c.args.x c.combined.result c.sum.result c.difference.result c.requires c.combined.ensures.size c.sum.ensures.size c.difference.ensures.size c.combined.ensures.value c.sum.ensures.value c.difference.ensures.value)
