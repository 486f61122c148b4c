use Rattle.std.proofs.Common.{◌∙◌, sym, arith}
use Rattle.std.specs.Prelude.{codes}
use Rattle.qt_first.specs.Pieces.{number_text}
use Rattle.qt_first.proofs.Pieces.{joined, past_number_text, measurement_text-pieces}
use Rattle.qt_first.proofs.read.measurement.Goals as goal

pub returns-in_err-qubit : goal.returns-in_err-qubit
returns-in_err-qubit c =
    rw c.from_residual-in_err-qubit.ensures
    (λ places rest fits e.
    let first = past_number_text (codes "c[") c.in_ok-bit.bit places.1 _ _ _ (omega (arith, c.in_ok-bit.ensures)) (omega (arith, fits)) c.in_ok-bit.ensures.1 (e ∙ measurement_text-pieces places.0 places.1 rest) in
    c.in_err-qubit.ensures places.0 _ fits.0 first.1)

pub returns-in_err-rest : goal.returns-in_err-rest
returns-in_err-rest c =
    rw c.from_residual-in_err-rest.ensures
    (λ places rest fits e.
    let first = past_number_text (codes "c[") c.in_ok-bit.bit places.1 _ _ _ (omega (arith, c.in_ok-bit.ensures)) (omega (arith, fits)) c.in_ok-bit.ensures.1 (e ∙ measurement_text-pieces places.0 places.1 rest) in
    let second = past_number_text (codes "] = measure q[") c.in_ok-qubit.qubit places.0 _ _ _ (omega (arith, c.in_ok-qubit.ensures)) (omega (arith, fits)) c.in_ok-qubit.ensures.1 first.1 in
    c.in_err-rest.ensures _ second.1)

pub returns : goal.returns
returns c = (
  (c.in_ok-qubit.ensures.0, c.in_ok-bit.ensures.0),
  joined (number_text (codes "c[") c.in_ok-bit.bit) (number_text (codes "] = measure q[") c.in_ok-qubit.qubit) (codes "];\n") _ _ _ _ c.in_ok-bit.ensures.1 c.in_ok-qubit.ensures.1 c.in_ok-rest.ensures
      ∙ sym (measurement_text-pieces c.in_ok-qubit.qubit c.in_ok-bit.bit c.in_ok-rest.rest.now),
)
