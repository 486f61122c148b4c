use Rattle.qt_first.proofs.Lines.{no_statement}
use Rattle.qt_first.proofs.read.statement.Goals as goal

pub returns-in_err-qubit : goal.returns-in_err-qubit
returns-in_err-qubit c =
    rw c.from_residual.ensures
    (no_statement c.args.registers.qubits c.args.registers.bits c.args.text.now
    c.in_default.ensures
    c.in_default-single_gate.ensures
    c.in_default-single_gate-2.ensures
    (λ control target. c.in_default-controlled_x.ensures (control, target))
    (λ qubit bit. c.in_err-qubit.ensures (qubit, bit)))
