use Rattle.std.proofs.Common.{◌<◌, length, get_or, sym, subst, ◌∙◌, arith}
use Rattle.qt_ring.specs.Division.{Divides}
use Rattle.qt_ring.specs.Ring.{nil, two_to}
use Rattle.qt_ring.specs.State.{project}
use Rattle.qt_measure.proofs.Projected.{IsHalved, kept_read, dropped_read, length_read, divides_at, halved_more, small_more, all_halved, nil_halved}
use Rattle.qt_measure.proofs.kept.kept_halved.Goals.{then-is_kept, else-is_kept}
use Rattle.qt_measure.proofs.kept.kept_halved.Goals as goal

pub halved-requires-clause-whole : goal.halved-requires-clause-whole
unfolding nil
halved-requires-clause-whole c =
    let s = c.args.state.now in
    let es = c.entries-entries.result.now in
    let v = c.entries-entries.ensures in
    subst (Divides (two_to c.args.by))
    (kept_read c.args.qubit c.args.outcome s es c.loop-index.index c.bit.result c.requires.qubit_in v.vector v.value c.loop-index-test.true c.bit.ensures c.if-is_kept.true)
    (divides_at (two_to c.args.by) (project c.args.qubit c.args.outcome s).entries c.loop-index.index c.requires.whole)

pub loop-index-preserved : goal.loop-index-preserved
unfolding nil
loop-index-preserved c =
    let s = c.args.state.now in
    let es = c.entries-entries.result.now in
    let i = c.loop-index.index in
    let d = two_to c.args.by in
    let p = (project c.args.qubit c.args.outcome s).entries in
    let v = c.entries-entries.ensures in
    let l = length_read c.args.qubit c.args.outcome s es v.vector v.value in
    let m : i < length p = (let t = c.loop-index-test.true in omega arith) in
    let h : IsHalved d (get_or p i nil) c.if-is_kept.push = elim c.if-is_kept.branch [
      | then-is_kept w ↦ (
          let e = kept_read c.args.qubit c.args.outcome s es i c.bit.result c.requires.qubit_in v.vector v.value c.loop-index-test.true c.bit.ensures w.if-is_kept.true in
          subst (IsHalved d (get_or p i nil)) (sym w.push-is) (record { value = w.halved.ensures.value ∙ sym e; small = w.halved.ensures.small }))
      | else-is_kept w ↦ nil_halved d (get_or p i nil) c.if-is_kept.push (dropped_read c.args.qubit c.args.outcome s es i c.bit.result c.requires.qubit_in v.vector v.value c.loop-index-test.true c.bit.ensures w.if-is_kept.false) w.push-is
    ] in
    record {
      value = halved_more d p c.loop-index.kept.items c.push.new.self.items i c.if-is_kept.push m c.loop-index.invariant.value h.value c.in_ok-push.ensures.items;
      small = small_more c.loop-index.kept.items c.push.new.self.items c.if-is_kept.push c.loop-index.invariant.small h.small c.in_ok-push.ensures.items;
    }

pub returns-clause-value : goal.returns-clause-value
returns-clause-value c =
    let s = c.args.state.now in
    let v = c.entries-entries.ensures in
    let l = length_read c.args.qubit c.args.outcome s c.entries-entries.result.now v.vector v.value in
    all_halved _ _ _ c.loop-index.index (let t = c.loop-index-test.false in omega arith) c.loop-index.invariant.value
