use Rattle.std.proofs.Common.{◌+◌, ◌≤◌, arith}
use Rattle.qt_ring.proofs.RingLaws.{one-times}
use Rattle.qt_measure.proofs.Doubling.{divides_fewer, half_within, halving_on, halved_once, has_half}
use Rattle.qt_measure.proofs.twos.halved.Goals as goal

pub loop-step-init : goal.loop-step-init
loop-step-init c = record { value = one-times c.args.amplitude; small = c.requires.small }

pub unwrap-rest-requires : goal.unwrap-rest-requires
unwrap-rest-requires c =
    let n : c.loop-step._step + 1 ≤ c.args.by = (let t = c.loop-step-test.true in omega arith) in
    has_half c.loop-step._step c.args.amplitude c.loop-step.rest c.halve.result c.loop-step.invariant.value
    (divides_fewer (c.loop-step._step + 1) c.args.by c.args.amplitude n c.requires.whole) c.halve.ensures

pub loop-step-preserved : goal.loop-step-preserved
loop-step-preserved c =
    let h = halved_once c.halve.result c.loop-step.rest c.unwrap-rest.result c.unwrap-rest.ensures c.halve.ensures in
    record {
      value = halving_on c.loop-step._step c.args.amplitude c.loop-step.rest c.unwrap-rest.result c.loop-step.invariant.value h;
      small = half_within _ c.loop-step.rest c.unwrap-rest.result h c.loop-step.invariant.small;
    }
