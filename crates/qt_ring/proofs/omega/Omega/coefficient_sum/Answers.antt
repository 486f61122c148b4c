use Rattle.std.proofs.Common.{arith}
use Rattle.std.proofs.lemmas.Int.{ints}
use Rattle.qt_ring.proofs.Coefficients.{trip_four, size_of}
use Rattle.qt_ring.proofs.omega.Omega.coefficient_sum.Goals as goal

pub returns-clause-value : goal.returns-clause-value
returns-clause-value c =
    let x = c.args.self in
    let v = c.requires in
    trip_four x.c0 x.c1 x.c2 x.c3 v.c0_in v.c1_in v.c2_in v.c3_in

pub returns-clause-size : goal.returns-clause-size
returns-clause-size c =
    let x = c.args.self in
    let v = c.requires in
    size_of _ _ _ (trip_four x.c0 x.c1 x.c2 x.c3 v.c0_in v.c1_in v.c2_in v.c3_in) (omega (arith, ints))
