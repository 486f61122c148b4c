use Rattle.std.proofs.Common.{◌∙◌, arith}
use Rattle.std.specs.Prelude.{codes}
use Rattle.qt_first.proofs.Pieces.{past, past_number_text, single_gate_text-pieces}
use Rattle.qt_first.proofs.read.single_gate.Goals as goal

pub returns-in_err-qubit : goal.returns-in_err-qubit
returns-in_err-qubit c =
    rw c.from_residual-in_err-qubit.ensures
    (λ qubit rest small e.
    let named = past c.args.name.now c.args.text.now _ _ c.in_ok-rest.ensures (e ∙ single_gate_text-pieces c.args.name.now qubit rest) in
    c.in_err-qubit.ensures qubit _ small named)

pub returns-in_err-rest-2 : goal.returns-in_err-rest-2
returns-in_err-rest-2 c =
    rw c.from_residual-in_err-rest-2.ensures
    (λ qubit rest small e.
    let named = past c.args.name.now c.args.text.now _ _ c.in_ok-rest.ensures (e ∙ single_gate_text-pieces c.args.name.now qubit rest) in
    let numbered = past_number_text (codes " q[") c.in_ok-qubit.qubit qubit _ _ _ (omega (arith, c.in_ok-qubit.ensures)) (omega arith) c.in_ok-qubit.ensures.1 named in
    c.in_err-rest-2.ensures _ numbered.1)
