use Rattle.std.proofs.Common.{pos, ◌^◌, arith, rules}
use Rattle.std.proofs.lemmas.Int.{ints}
use Rattle.qt_root2.specs.Numerators.{root2_of}
use Rattle.qt_root2.proofs.Loops.{doubling_more, doubling_rises}
use Rattle.qt_root2.proofs.Words.{at_least}
use Rattle.qt_root2.proofs.numerator.Numerator.doublings.Goals as goal

pub returns-then-number-ge-LIMIT-clause-fault : goal.returns-then-number-ge-LIMIT-clause-fault
returns-then-number-ge-LIMIT-clause-fault c =
    let l = c.loop-time in
    let large = at_least (pos (2 ^ 100)) l.number.a (search rules) c.if-number-ge-LIMIT.true in
    let more = doubling_rises (root2_of l.number) (root2_of c.args.self) c.args.times l._time (omega (arith, c.loop-time-test.true)) l.invariant l.number.good.0 in
    omega (arith, ints)

pub loop-time-preserved : goal.loop-time-preserved
loop-time-preserved c =
    let l = c.loop-time in
    doubling_more (root2_of c.doubled-number.result) (root2_of l.number) (root2_of c.args.self) l._time c.doubled-number.ensures l.invariant
