use Rattle.std.proofs.Common.{arith}
use Rattle.qt_primitives.proofs.Lists.{one_fewer}
use Rattle.qt_primitives.proofs.primitives.modified.Goals as goal

pub loop-left-preserved : goal.loop-left-preserved
loop-left-preserved c = record {
  same =
      one_fewer c.args.modifiers.now c.loop-left.left _ c.loop-left.more c.in_ok-more.more _ c.loop-left-test.true
      c.loop-left.invariant.within c.loop-left.invariant.same c.in_ok-more.ensures;
  within = omega (arith, c.loop-left.invariant.within);
}
