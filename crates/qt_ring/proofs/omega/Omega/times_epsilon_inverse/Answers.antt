use Rattle.qt_ring.proofs.Coefficients.{trip_two_less, trip_less_two, size_two_less, size_less_two}
use Rattle.qt_ring.proofs.Dividing.{epsilon_inverse_times}
use Rattle.qt_ring.proofs.omega.Omega.times_epsilon_inverse.Goals as goal

pub returns-clause-value : goal.returns-clause-value
returns-clause-value c =
    let x = c.args.self in
    let v = c.requires in
    epsilon_inverse_times x _ (trip_less_two x.c1 x.c3 x.c0 v.c1_in v.c3_in v.c0_in) (trip_two_less x.c0 x.c2 x.c1 v.c0_in v.c2_in v.c1_in) (trip_two_less x.c1 x.c3 x.c2 v.c1_in v.c3_in v.c2_in) (trip_less_two x.c2 x.c0 x.c3 v.c2_in v.c0_in v.c3_in)

pub returns-clause-size : goal.returns-clause-size
returns-clause-size c =
    let x = c.args.self in
    let v = c.requires in
    record { c0_in = size_less_two x.c1 x.c3 x.c0 v.c1_in v.c3_in v.c0_in; c1_in = size_two_less x.c0 x.c2 x.c1 v.c0_in v.c2_in v.c1_in; c2_in = size_two_less x.c1 x.c3 x.c2 v.c1_in v.c3_in v.c2_in; c3_in = size_less_two x.c2 x.c0 x.c3 v.c2_in v.c0_in v.c3_in }
