use Rattle.std.proofs.Common.{◌≡◌, get_or, below_more, sym, ◌∙◌, arith}
use Rattle.qt_ring.specs.Ring.{nil}
use Rattle.qt_ring.specs.State.{project}
use Rattle.qt_ring.proofs.RingLaws.{is_nil_true}
use Rattle.qt_measure.proofs.Projected.{kept_read, dropped_read, length_read, vanishes_from, not_vanishing}
use Rattle.qt_measure.proofs.kept.leaves_nothing.Goals.{else-bit-outcome-via-then-bit-outcome+else-not-is_zero, else-bit-outcome-via-else-bit-outcome}
use Rattle.qt_measure.proofs.kept.leaves_nothing.Goals as goal

pub returns-then-not-is_zero : goal.returns-then-not-is_zero
unfolding nil
returns-then-not-is_zero c =
    let v = c.entries-entries.ensures in
    not_vanishing (project c.args.qubit c.args.outcome c.args.state.now) c.loop-index.index _
    (kept_read c.args.qubit c.args.outcome c.args.state.now c.entries-entries.result.now c.loop-index.index c.bit.result c.requires v.vector v.value c.loop-index-test.true c.bit.ensures c.if-bit-outcome.true)
    (sym c.is_zero.ensures ∙ c.if-not-is_zero.true)

pub loop-index-preserved : goal.loop-index-preserved
unfolding nil
loop-index-preserved c =
    let s = c.args.state.now in
    let es = c.entries-entries.result.now in
    let i = c.loop-index.index in
    let p = (project c.args.qubit c.args.outcome s).entries in
    let v = c.entries-entries.ensures in
    below_more (λ j. get_or p j nil ≡ nil) i c.loop-index.invariant (elim c.else-bit-outcome.branch [
      | else-bit-outcome-via-then-bit-outcome+else-not-is_zero w ↦
          kept_read c.args.qubit c.args.outcome s es i c.bit.result c.requires v.vector v.value c.loop-index-test.true c.bit.ensures w.if-bit-outcome.true
          ∙ is_nil_true (get_or es i nil) (sym w.is_zero.ensures ∙ w.if-not-is_zero.false)
      | else-bit-outcome-via-else-bit-outcome w ↦
          dropped_read c.args.qubit c.args.outcome s es i c.bit.result c.requires v.vector v.value c.loop-index-test.true c.bit.ensures w.if-bit-outcome.false
    ])

pub returns : goal.returns
returns c =
    let v = c.entries-entries.ensures in
    let l = length_read c.args.qubit c.args.outcome c.args.state.now c.entries-entries.result.now v.vector v.value in
    vanishes_from (project c.args.qubit c.args.outcome c.args.state.now) c.loop-index.index (let t = c.loop-index-test.false in omega arith) c.loop-index.invariant
