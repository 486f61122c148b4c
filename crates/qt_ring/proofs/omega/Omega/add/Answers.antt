use Rattle.qt_ring.specs.Ring.{plus}
use Rattle.qt_ring.proofs.RingLaws.{same}
use Rattle.qt_ring.proofs.Coefficients.{trip_sum}
use Rattle.qt_ring.proofs.omega.Omega.add.Goals as goal

pub returns : goal.returns
unfolding plus
returns c =
    let v = c.requires.self_size in
    let w = c.requires.other_size in
    same _ _ (trip_sum c.args.self.c0 c.args.other.c0 v.c0_in w.c0_in) (trip_sum c.args.self.c1 c.args.other.c1 v.c1_in w.c1_in) (trip_sum c.args.self.c2 c.args.other.c2 v.c2_in w.c2_in) (trip_sum c.args.self.c3 c.args.other.c3 v.c3_in w.c3_in)
