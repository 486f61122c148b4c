use Rattle.std.proofs.Common.{◌≡◌, ◌^◌, ap, ◌∙◌, map, get_or, arith}
use Rattle.std.specs.List.{range_with_len}
use Rattle.qt_ring.specs.Ring.{nil}
use Rattle.qt_ring.specs.Places.{at, equal_bits, bits_of}
use Rattle.qt_ring.specs.Matrix.{kept}
use Rattle.qt_ring.specs.State.{project}
use Rattle.qt_plain.proofs.Lists.{pushed}
use Rattle.qt_plain.proofs.Rows.{kept_entry, dropped_entry}
use Rattle.qt_plain.proofs.measure.projected.Goals.{then-is_kept, else-is_kept}
use Rattle.qt_plain.proofs.measure.projected.Goals as goal

pub loop-index-preserved : goal.loop-index-preserved
unfolding nil
loop-index-preserved c = pushed _ c.loop-index.index _ c.loop-index.kept.items _ c.loop-index.invariant
    (elim c.if-is_kept.branch [
      | then-is_kept w ↦ w.push-is ∙ kept_entry c.args.qubits c.args.qubit c.loop-index.index c.bit.result c.args.outcome _ c.requires.qubit_in c.bit.ensures w.if-is_kept.true
      | else-is_kept w ↦ w.push-is ∙ dropped_entry c.args.qubits c.args.qubit c.loop-index.index c.bit.result c.args.outcome _ c.requires.qubit_in c.bit.ensures w.if-is_kept.false
    ])
    c.in_ok-push.ensures.items

pub returns : goal.returns
unfolding project
returns c =
    let done : c.loop-index.index ≡ 2 ^ c.args.qubits = omega (arith, c.requires.full) in
    c.loop-index.invariant
    ∙ ap (λ n. map (λ i. kept (equal_bits (at c.args.qubit (bits_of c.args.qubits i)) c.args.outcome) (get_or c.args.entries.now i nil)) (range_with_len 0 n)) done
