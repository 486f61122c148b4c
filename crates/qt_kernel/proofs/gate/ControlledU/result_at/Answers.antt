use Rattle.std.proofs.Common.{arith}
use Rattle.qt_ring.specs.Ring.{nil}
use Rattle.qt_embedding.proofs.Twins.{twin_lt, bit_below}
use Rattle.qt_kernel.proofs.Writing.{low_alone, high_alone, bit_is, short}
use Rattle.qt_kernel.proofs.gate.ControlledU.result_at.Goals as goal

pub offset_bounds-entries-index-then-index-bit-eq0 : goal.offset_bounds-entries-index-then-index-bit-eq0
offset_bounds-entries-index-then-index-bit-eq0 c =
    let l = twin_lt c.args.qubits c.args.self.target c.args.index _ (bit_is c.args.self c.args.qubits c.args.entries.now c.requires.suits) c.requires.index_in c.requires.suits.target.target_in in
    let p = short c.args.self c.args.qubits c.args.entries.now c.requires.suits in
    omega arith

pub bounds-entries-index-then-index-bit-eq0 : goal.bounds-entries-index-then-index-bit-eq0
bounds-entries-index-then-index-bit-eq0 c =
    let l = twin_lt c.args.qubits c.args.self.target c.args.index _ (bit_is c.args.self c.args.qubits c.args.entries.now c.requires.suits) c.requires.index_in c.requires.suits.target.target_in in
    let a = c.requires.suits.all in
    omega arith

pub low_result-requires-clause-low : goal.low_result-requires-clause-low
unfolding nil
low_result-requires-clause-low c = let a = c.requires.suits.all in c.requires.suits.small c.args.index nil (omega arith)

pub low_result-requires-clause-high : goal.low_result-requires-clause-high
unfolding nil
low_result-requires-clause-high c =
    let l = twin_lt c.args.qubits c.args.self.target c.args.index _ (bit_is c.args.self c.args.qubits c.args.entries.now c.requires.suits) c.requires.index_in c.requires.suits.target.target_in in
    let a = c.requires.suits.all in
    c.requires.suits.small _ nil (omega arith)

pub overflow_sub-index : goal.overflow_sub-index
overflow_sub-index c = bit_below c.args.self.target c.args.index _ (bit_is c.args.self c.args.qubits c.args.entries.now c.requires.suits) c.if-index-bit-eq0.false

pub high_result-requires-clause-low : goal.high_result-requires-clause-low
unfolding nil
high_result-requires-clause-low c = let a = c.requires.suits.all in c.requires.suits.small _ nil (omega arith)

pub high_result-requires-clause-high : goal.high_result-requires-clause-high
unfolding nil
high_result-requires-clause-high c = let a = c.requires.suits.all in c.requires.suits.small c.args.index nil (omega arith)

pub returns-then-index-bit-eq0-clause-value : goal.returns-then-index-bit-eq0-clause-value
unfolding nil
returns-then-index-bit-eq0-clause-value c = low_alone c.args.self c.args.index _ c.args.entries.now c.hold-hold.result _ (bit_is c.args.self c.args.qubits c.args.entries.now c.requires.suits) c.if-index-bit-eq0.true c.hold-hold.ensures c.low_result.ensures.value

pub returns-else-index-bit-eq0-clause-value : goal.returns-else-index-bit-eq0-clause-value
unfolding nil
returns-else-index-bit-eq0-clause-value c = high_alone c.args.self c.args.index _ c.args.entries.now c.hold-hold.result _ (bit_is c.args.self c.args.qubits c.args.entries.now c.requires.suits) c.if-index-bit-eq0.false c.hold-hold.ensures c.high_result.ensures.value
