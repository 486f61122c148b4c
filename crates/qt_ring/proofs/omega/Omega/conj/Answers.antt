use Rattle.qt_ring.specs.Ring.{conj}
use Rattle.qt_ring.proofs.RingLaws.{same}
use Rattle.qt_ring.proofs.Coefficients.{trip_is, trip_opposite}
use Rattle.qt_ring.proofs.omega.Omega.conj.Goals as goal

pub returns-clause-value : goal.returns-clause-value
unfolding conj
returns-clause-value c =
    let x = c.args.self in
    let v = c.requires in
    same _ _ (trip_is x.c0 v.c0_in) (trip_opposite x.c3 v.c3_in) (trip_opposite x.c2 v.c2_in) (trip_opposite x.c1 v.c1_in)
