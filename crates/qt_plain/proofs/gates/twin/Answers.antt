use Rattle.std.proofs.Common.{◌≡◌, ◌^◌, ◌*◌, ◌%◌, ◌≤◌, ◌+◌, ◌<◌, sym, ◌∙◌, arith}
use Rattle.std.proofs.lemmas.Nat.{one_shl}
use Rattle.qt_plain.proofs.Rows.{twin_below, twin_within}
use Rattle.qt_plain.proofs.gates.twin.Goals as goal

pub overflow_sub-result : goal.overflow_sub-result
overflow_sub-result c =
    let step : 1 * 2 ^ c.args.qubit % 2 ^ 64 ≡ 2 ^ c.args.qubit = one_shl c.args.qubit 64 (omega arith) in
    let below : 2 ^ c.args.qubit ≤ c.args.index = twin_below c.args.index c.args.qubit (sym c.bit.ensures ∙ c.if-bit.true) in
    omega arith

pub returns-else-bit-clause-within : goal.returns-else-bit-clause-within
returns-else-bit-clause-within c =
    let step : 1 * 2 ^ c.args.qubit % 2 ^ 64 ≡ 2 ^ c.args.qubit = one_shl c.args.qubit 64 (omega arith) in
    let within : c.args.index + 2 ^ c.args.qubit < 2 ^ c.args.qubits = twin_within c.args.qubits c.args.index c.args.qubit c.requires.index_in c.requires.qubit_in (sym c.bit.ensures ∙ c.if-bit.false) in
    omega arith
