use Rattle.std.proofs.Common.{◌∙◌, arith}
use Rattle.qt_unit.proofs.Products.{combined_is, combined_size, short_product}
use Rattle.qt_unit.proofs.arithmetic.combined.Goals as goal

pub returns-clause-value : goal.returns-clause-value
returns-clause-value c = combined_is c.product.result c.product-2.result _ _ c.product.ensures.size c.product-2.ensures.size
    (c.product.ensures.value ∙ short_product c.args.a c.args.x c.requires.a_size (omega arith))
    (c.product-2.ensures.value ∙ short_product c.args.b c.args.y c.requires.b_size (omega arith))

pub returns-clause-size : goal.returns-clause-size
returns-clause-size c = combined_size c.product.result c.product-2.result c.product.ensures.size c.product-2.ensures.size
