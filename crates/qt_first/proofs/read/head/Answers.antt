use Rattle.std.proofs.Common.{◌∙◌, arith}
use Rattle.std.specs.Prelude.{codes}
use Rattle.qt_first.proofs.Pieces.{past_number_text, head_text-pieces}
use Rattle.qt_first.proofs.read.head.Goals as goal

pub returns-in_err-qubits : goal.returns-in_err-qubits
returns-in_err-qubits c =
    rw c.from_residual.ensures
    (λ registers rest sized e. c.in_err-qubits.ensures registers.qubits _ (sized.some_qubits, sized.few_qubits) (e ∙ head_text-pieces registers.qubits registers.bits rest))

pub returns-in_err-bits : goal.returns-in_err-bits
returns-in_err-bits c =
    rw c.from_residual-in_err-bits.ensures
    (λ registers rest sized e.
    let first = past_number_text (codes "OPENQASM 3.0;\ninclude \"stdgates.inc\";\nqubit[") c.in_ok-qubits.qubits registers.qubits _ _ _ (omega (arith, c.in_ok-qubits.ensures)) (omega arith) c.in_ok-qubits.ensures.1 (e ∙ head_text-pieces registers.qubits registers.bits rest) in
    c.in_err-bits.ensures registers.bits _ (sized.some_bits, sized.few_bits) first.1)

pub returns-in_err-rest : goal.returns-in_err-rest
returns-in_err-rest c =
    rw c.from_residual-in_err-rest.ensures
    (λ registers rest sized e.
    let first = past_number_text (codes "OPENQASM 3.0;\ninclude \"stdgates.inc\";\nqubit[") c.in_ok-qubits.qubits registers.qubits _ _ _ (omega (arith, c.in_ok-qubits.ensures)) (omega arith) c.in_ok-qubits.ensures.1 (e ∙ head_text-pieces registers.qubits registers.bits rest) in
    let second = past_number_text (codes "] q;\nbit[") c.in_ok-bits.bits registers.bits _ _ _ (omega (arith, c.in_ok-bits.ensures)) (omega arith) c.in_ok-bits.ensures.1 first.1 in
    c.in_err-rest.ensures _ second.1)
