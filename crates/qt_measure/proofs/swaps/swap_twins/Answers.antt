use Rattle.std.proofs.Common.{◌≡◌, ◌+◌, ◌*◌, ◌%◌, ◌^◌, ◌<◌, length, sym, subst, ◌∙◌, arith}
use Rattle.std.proofs.lemmas.Nat.{one_shl}
use Rattle.qt_ring.proofs.Twins.{up_lt}
use Rattle.qt_measure.proofs.Swapped.{Swapping, zero_bit, one_bit, swapped_by, passed, swapping_ends}
use Rattle.qt_measure.proofs.swaps.swap_twins.Goals.{then-not-bit, else-not-bit}
use Rattle.qt_measure.proofs.swaps.swap_twins.Goals as goal

pub swap-requires-clause-b_in_bounds : goal.swap-requires-clause-b_in_bounds
swap-requires-clause-b_in_bounds c =
    let step : 1 * 2 ^ c.args.qubit % 2 ^ 64 ≡ 2 ^ c.args.qubit = one_shl c.args.qubit 64 (omega arith) in
    let i : c.loop-index.index < 2 ^ c.args.qubits = omega arith in
    let up : c.loop-index.index + 2 ^ c.args.qubit < 2 ^ c.args.qubits = up_lt c.args.qubits c.args.qubit c.loop-index.index i c.requires.qubit_in (zero_bit _ (sym c.bit.ensures ∙ c.if-not-bit.true)) in
    omega arith

pub loop-index-preserved : goal.loop-index-preserved
loop-index-preserved c =
    let i : c.loop-index.index < 2 ^ c.args.qubits = omega arith in
    let long : length c.loop-index.entries ≡ 2 ^ c.args.qubits = omega arith in
    elim c.if-not-bit.branch [
      | then-not-bit w ↦
          swapped_by c.args.qubits c.args.qubit c.args.entries.now c.loop-index.entries c.if-not-bit.entries c.loop-index.index _ (one_shl c.args.qubit 64 (omega arith)) (w.entries-is ∙ w.swap.ensures.after)
          long c.requires.qubit_in i (zero_bit _ (sym c.bit.ensures ∙ w.if-not-bit.true)) c.loop-index.invariant
      | else-not-bit w ↦
          subst (λ xs. Swapping c.args.qubits c.args.qubit c.args.entries.now xs (c.loop-index.index + 1)) (sym w.entries-is)
          (passed c.args.qubits c.args.qubit c.args.entries.now c.loop-index.entries c.loop-index.index (one_bit _ (sym c.bit.ensures ∙ w.if-not-bit.false)) c.loop-index.invariant)
    ]

pub returns : goal.returns
returns c = swapping_ends c.args.qubits c.args.qubit c.args.entries.now c.loop-index.entries c.loop-index.index (omega arith) c.requires.qubit_in (omega arith) c.loop-index.invariant
