use Rattle.qt_ring.proofs.Coefficients.{turned_is, trip_negative, trip_is}
use Rattle.qt_ring.proofs.omega.Omega.turned.Goals as goal

pub returns-clause-value : goal.returns-clause-value
returns-clause-value c = turned_is c.args.self _ (trip_negative _ c.requires.c3_in) (trip_is _ c.requires.c0_in) (trip_is _ c.requires.c1_in) (trip_is _ c.requires.c2_in)
