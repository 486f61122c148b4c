use Rattle.std.proofs.Common.{◌*ℤ◌}
use Rattle.qt_ring.proofs.Coefficients.{opposite_fits, opposite_size, products_sum, product_is}
use Rattle.qt_ring.proofs.omega.Omega.norm_parts.Goals as goal

pub overflow_sub-product : goal.overflow_sub-product
overflow_sub-product c = opposite_fits c.product-8.result c.product-8.ensures.size

pub total-requires-2-clause-d_size : goal.total-requires-2-clause-d_size
total-requires-2-clause-d_size c = opposite_size c.product-8.result c.product-8.ensures.size

pub returns-clause-second : goal.returns-clause-second
returns-clause-second c =
    let x = c.args.self in
    let v = c.requires in
    products_sum c.product-5.result c.product-6.result c.product-7.result c.product-8.result c.total-2.result (x.c0 *ℤ x.c1) (x.c1 *ℤ x.c2) (x.c2 *ℤ x.c3) (x.c3 *ℤ x.c0)
    c.product-5.ensures.size c.product-6.ensures.size c.product-7.ensures.size c.product-8.ensures.size c.total-2.ensures
    (product_is x.c0 x.c1 c.product-5.result v.c0_in v.c1_in c.product-5.ensures.value)
    (product_is x.c1 x.c2 c.product-6.result v.c1_in v.c2_in c.product-6.ensures.value)
    (product_is x.c2 x.c3 c.product-7.result v.c2_in v.c3_in c.product-7.ensures.value)
    (product_is x.c3 x.c0 c.product-8.result v.c3_in v.c0_in c.product-8.ensures.value)
