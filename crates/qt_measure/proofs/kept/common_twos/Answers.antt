use Rattle.std.proofs.Common.{◌≡◌, ◌+◌, sym, subst, arith}
use Rattle.std.specs.Prelude.{◌⊎◌}
use Rattle.qt_ring.specs.Division.{Divides}
use Rattle.qt_ring.specs.Ring.{nil, two_to}
use Rattle.qt_ring.specs.State.{project}
use Rattle.qt_measure.proofs.Projected.{Common, kept_read, dropped_read, length_read, one_divides_all, common_dropped, common_kept, common_greatest, common_none, common_whole}
use Rattle.qt_measure.proofs.kept.common_twos.Goals.{then-bit-outcome, else-bit-outcome}
use Rattle.qt_measure.proofs.kept.common_twos.Goals as goal

pub returns-then-by-eq0-clause-whole : goal.returns-then-by-eq0-clause-whole
returns-then-by-eq0-clause-whole c = one_divides_all _

pub returns-then-by-eq0-clause-greatest : goal.returns-then-by-eq0-clause-greatest
returns-then-by-eq0-clause-greatest c = common_none _ _ _ _ c.if-by-eq0.true c.loop-index.invariant

pub loop-index-preserved : goal.loop-index-preserved
unfolding nil
loop-index-preserved c =
    let s = c.args.state.now in
    let es = c.entries-entries.result.now in
    let i = c.loop-index.index in
    let p = (project c.args.qubit c.args.outcome s).entries in
    let v = c.entries-entries.ensures in
    elim c.if-bit-outcome.branch [
      | then-bit-outcome w ↦ (
          let e = kept_read c.args.qubit c.args.outcome s es i c.bit.result c.requires v.vector v.value c.loop-index-test.true c.bit.ensures w.if-bit-outcome.true in
          let t = w.twos-by.ensures in
          subst (Common s.halvings p (i + 1)) (sym w.by-is)
          (common_kept s.halvings p i w.twos-by.result c.loop-index.by t.few (subst (Divides (two_to w.twos-by.result)) (sym e) t.whole)
          (subst (λ x. (w.twos-by.result ≡ c.loop-index.by) ⊎ (Divides (two_to (w.twos-by.result + 1)) x → ⊥)) (sym e) t.greatest) c.loop-index.invariant))
      | else-bit-outcome w ↦ (
          let e = dropped_read c.args.qubit c.args.outcome s es i c.bit.result c.requires v.vector v.value c.loop-index-test.true c.bit.ensures w.if-bit-outcome.false in
          subst (Common s.halvings p (i + 1)) (sym w.by-is) (common_dropped s.halvings p i c.loop-index.by e c.loop-index.invariant))
    ]

pub returns-clause-whole : goal.returns-clause-whole
returns-clause-whole c =
    let v = c.entries-entries.ensures in
    let l = length_read c.args.qubit c.args.outcome c.args.state.now c.entries-entries.result.now v.vector v.value in
    common_whole _ _ _ _ (omega arith) c.loop-index.invariant

pub returns-clause-greatest : goal.returns-clause-greatest
returns-clause-greatest c = common_greatest _ _ _ _ c.loop-index.invariant
