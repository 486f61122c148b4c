use Rattle.std.proofs.Common.{arith}
use Rattle.qt_embedding.proofs.Twins.{begun, ended}
use Rattle.qt_kernel.proofs.Writing.{IsNew, stands, bit_is, low_small, high_small, low_divides, high_divides, pair_written, index_passed, moved}
use Rattle.qt_kernel.proofs.gate.ControlledU.write.Goals.{then-index-bit-eq0, else-index-bit-eq0}
use Rattle.qt_kernel.proofs.gate.ControlledU.write.Goals as goal

pub loop-index-init : goal.loop-index-init
loop-index-init c = begun c.args.self.target (IsNew c.args.self c.args.by c.args.entries.now) c.args.entries.now

pub write_pair-requires-clause-high_in : goal.write_pair-requires-clause-high_in
write_pair-requires-clause-high_in c =
    let d = stands c.args.self c.args.by c.args.qubits c.args.entries.now c.loop-index.entries c.loop-index.index _ c.requires.suits c.loop-index.auto.entries (omega arith) (bit_is c.args.self c.args.qubits c.args.entries.now c.requires.suits) c.if-index-bit-eq0.true c.loop-index.invariant in
    let t = d.twin in
    let l = d.twin_in in
    let a = d.filled in
    omega arith

pub write_pair-requires-clause-low_size : goal.write_pair-requires-clause-low_size
write_pair-requires-clause-low_size c =
    low_small c.args.self c.args.qubits c.args.entries.now c.loop-index.entries c.loop-index.index _
    (stands c.args.self c.args.by c.args.qubits c.args.entries.now c.loop-index.entries c.loop-index.index _ c.requires.suits c.loop-index.auto.entries (omega arith) (bit_is c.args.self c.args.qubits c.args.entries.now c.requires.suits) c.if-index-bit-eq0.true c.loop-index.invariant)

pub write_pair-requires-clause-high_size : goal.write_pair-requires-clause-high_size
write_pair-requires-clause-high_size c =
    high_small c.args.self c.args.qubits c.args.entries.now c.loop-index.entries c.loop-index.index _
    (stands c.args.self c.args.by c.args.qubits c.args.entries.now c.loop-index.entries c.loop-index.index _ c.requires.suits c.loop-index.auto.entries (omega arith) (bit_is c.args.self c.args.qubits c.args.entries.now c.requires.suits) c.if-index-bit-eq0.true c.loop-index.invariant)

pub write_pair-requires-clause-low_whole : goal.write_pair-requires-clause-low_whole
write_pair-requires-clause-low_whole c =
    low_divides c.args.self c.args.by c.args.qubits c.args.entries.now c.loop-index.entries c.loop-index.index _ c.requires.whole
    (stands c.args.self c.args.by c.args.qubits c.args.entries.now c.loop-index.entries c.loop-index.index _ c.requires.suits c.loop-index.auto.entries (omega arith) (bit_is c.args.self c.args.qubits c.args.entries.now c.requires.suits) c.if-index-bit-eq0.true c.loop-index.invariant)

pub write_pair-requires-clause-high_whole : goal.write_pair-requires-clause-high_whole
write_pair-requires-clause-high_whole c =
    high_divides c.args.self c.args.by c.args.qubits c.args.entries.now c.loop-index.entries c.loop-index.index _ c.requires.whole
    (stands c.args.self c.args.by c.args.qubits c.args.entries.now c.loop-index.entries c.loop-index.index _ c.requires.suits c.loop-index.auto.entries (omega arith) (bit_is c.args.self c.args.qubits c.args.entries.now c.requires.suits) c.if-index-bit-eq0.true c.loop-index.invariant)

pub loop-index-preserved : goal.loop-index-preserved
loop-index-preserved c =
    let b = bit_is c.args.self c.args.qubits c.args.entries.now c.requires.suits in
    elim c.if-index-bit-eq0.branch [
      | then-index-bit-eq0 w ↦ pair_written c.args.self c.args.by c.args.qubits c.args.entries.now c.loop-index.entries _ c.loop-index.index _
          (stands c.args.self c.args.by c.args.qubits c.args.entries.now c.loop-index.entries c.loop-index.index _ c.requires.suits c.loop-index.auto.entries (omega arith) b w.if-index-bit-eq0.true c.loop-index.invariant)
          (moved _ _ _ _ _ _ _ w.entries-is w.write_pair.ensures) c.loop-index.invariant
      | else-index-bit-eq0 w ↦ index_passed c.args.self c.args.by c.args.entries.now c.loop-index.entries _ c.loop-index.index _ b w.if-index-bit-eq0.false w.entries-is c.loop-index.invariant
    ]

pub returns : goal.returns
returns c = ended c.args.self.target c.loop-index.index (IsNew c.args.self c.args.by c.args.entries.now) c.args.entries.now c.loop-index.entries (omega arith) c.loop-index.invariant
