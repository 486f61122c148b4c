use Rattle.qt_size.proofs.Sizes.{one_more_known, one_longer}
use Rattle.qt_size.proofs.subroutines.subroutine_sizes.Goals as goal

pub loop-subroutine-preserved : goal.loop-subroutine-preserved
loop-subroutine-preserved c = (
  one_more_known c.args.subroutines.now c.loop-subroutine.subroutine-index c.subroutine-item.result c.loop-subroutine.known c.push.new.self
      c.list_size-size.result c.loop-subroutine-test.true c.subroutine-item.is c.loop-subroutine.invariant.1 c.loop-subroutine.invariant.0
      (rw (← c.as_slice.ensures, ← c.as_slice-in-loop-subroutine.ensures) c.list_size-size.ensures) c.in_ok-push.ensures.ok,
  one_longer c.loop-subroutine.known c.push.new.self c.list_size-size.result c.loop-subroutine.subroutine-index c.in_ok-push.ensures.ok
      c.loop-subroutine.invariant.1,
)
