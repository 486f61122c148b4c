use Rattle.qt_ring.proofs.Coefficients.{trip_two_less, trip_three, size_two_less, size_three}
use Rattle.qt_ring.proofs.Dividing.{epsilon_times}
use Rattle.qt_ring.proofs.omega.Omega.times_epsilon.Goals as goal

pub returns-clause-value : goal.returns-clause-value
returns-clause-value c =
    let x = c.args.self in
    let v = c.requires in
    epsilon_times x _ (trip_two_less x.c0 x.c1 x.c3 v.c0_in v.c1_in v.c3_in) (trip_three x.c1 x.c0 x.c2 v.c1_in v.c0_in v.c2_in) (trip_three x.c2 x.c1 x.c3 v.c2_in v.c1_in v.c3_in) (trip_two_less x.c3 x.c2 x.c0 v.c3_in v.c2_in v.c0_in)

pub returns-clause-size : goal.returns-clause-size
returns-clause-size c =
    let x = c.args.self in
    let v = c.requires in
    record { c0_in = size_two_less x.c0 x.c1 x.c3 v.c0_in v.c1_in v.c3_in; c1_in = size_three x.c1 x.c0 x.c2 v.c1_in v.c0_in v.c2_in; c2_in = size_three x.c2 x.c1 x.c3 v.c2_in v.c1_in v.c3_in; c3_in = size_two_less x.c3 x.c2 x.c0 v.c3_in v.c2_in v.c0_in }
