use Rattle.std.proofs.Common.{◌∙◌, ap}
use Rattle.qt_ring.specs.Ring.{times}
use Rattle.qt_unit.proofs.Products.{product_is, product_size}
use Rattle.qt_unit.proofs.epsilon.EpsilonPower.times.Goals as goal

pub returns-clause-value : goal.returns-clause-value
returns-clause-value c = product_is c.args.x c.args.self.a c.args.self.b c.combined.result c.combined-2.result c.combined-3.result c.combined-4.result c.difference.result c.sum.result c.sum-2.result c.difference-2.result
    c.requires c.args.self.a_size c.args.self.b_size
    c.combined.ensures.size c.combined-2.ensures.size c.combined-3.ensures.size c.combined-4.ensures.size
    c.difference.ensures.size c.sum.ensures.size c.sum-2.ensures.size c.difference-2.ensures.size
    c.combined.ensures.value c.combined-2.ensures.value c.combined-3.ensures.value c.combined-4.ensures.value
    c.difference.ensures.value c.sum.ensures.value c.sum-2.ensures.value c.difference-2.ensures.value
    ∙ ap (λ t. times t c.args.x) c.args.self.value

pub returns-clause-size : goal.returns-clause-size
returns-clause-size c = product_size c.combined.result c.combined-2.result c.combined-3.result c.combined-4.result c.combined.ensures.size c.combined-2.ensures.size c.combined-3.ensures.size c.combined-4.ensures.size
