use Rattle.qt_root2.specs.Numerators.{root2_of}
use Rattle.qt_root2.proofs.Loops.{halving_more, halving_stops}
use Rattle.qt_root2.proofs.numerator.Numerator.halvings.Goals as goal

pub returns-in-None-clause-fault : goal.returns-in-None-clause-fault
returns-in-None-clause-fault c = λ y e.
    let l = c.loop-time in
    halving_stops (root2_of l.number) y (root2_of c.args.self) c.args.times l._time c.loop-time-test.true c.in-None.ensures.odd l.invariant e

pub loop-time-preserved : goal.loop-time-preserved
loop-time-preserved c =
    let l = c.loop-time in
    halving_more (root2_of c.in-Some.half) (root2_of l.number) (root2_of c.args.self) l._time c.in-Some.ensures.half l.invariant
