use Rattle.std.proofs.Common.{◌∙◌, sym, arith}
use Rattle.std.specs.Prelude.{codes}
use Rattle.std.proofs.lemmas.Bool.{eqb-false, eqb-true, not-false, not-true}
use Rattle.qt_first.specs.Pieces.{AreControlAndTarget, controlled_x_text, number_text}
use Rattle.qt_first.proofs.Pieces.{BeginsWith-then_some, joined, past_number_text, same_pair, controlled_x_text-pieces}
use Rattle.qt_first.proofs.read.controlled_x.Goals as goal

pub returns-in_err-target : goal.returns-in_err-target
returns-in_err-target c =
    rw c.from_residual-in_err-target.ensures
    (λ places rest fits e.
    let first = past_number_text (codes "cx q[") c.in_ok-control.control places.0 _ _ _ (omega (arith, c.in_ok-control.ensures)) (omega (arith, fits)) c.in_ok-control.ensures.1 (e ∙ controlled_x_text-pieces places.0 places.1 rest) in
    c.in_err-target.ensures places.1 _ fits.1 first.1)

pub returns-in_err-rest : goal.returns-in_err-rest
returns-in_err-rest c =
    rw c.from_residual-in_err-rest.ensures
    (λ places rest fits e.
    let first = past_number_text (codes "cx q[") c.in_ok-control.control places.0 _ _ _ (omega (arith, c.in_ok-control.ensures)) (omega (arith, fits)) c.in_ok-control.ensures.1 (e ∙ controlled_x_text-pieces places.0 places.1 rest) in
    let second = past_number_text (codes "], q[") c.in_ok-target.target places.1 _ _ _ (omega (arith, c.in_ok-target.ensures)) (omega (arith, fits)) c.in_ok-target.ensures.1 first.1 in
    c.in_err-rest.ensures _ second.1)

pub returns : goal.returns
returns c =
    let control = c.in_ok-control.control in
    let target = c.in_ok-target.target in
    let read = joined (number_text (codes "cx q[") control) (number_text (codes "], q[") target) (codes "];\n") _ _ _ _ c.in_ok-control.ensures.1 c.in_ok-target.ensures.1 c.in_ok-rest.ensures in
    rw c.then_some.ensures
    (BeginsWith-then_some (AreControlAndTarget c.args.qubits) controlled_x_text c.args.text.now _ (control, target) c.in_ok-rest.rest
    (λ apart.
    let different = eqb-false control target (not-true _ apart) in
    ((c.in_ok-control.ensures.0, c.in_ok-target.ensures.0, different), read ∙ sym (controlled_x_text-pieces control target c.in_ok-rest.rest.now)))
    (λ equal places rest fits e.
    let same = same_pair (codes "cx q[") (codes "], q[") (codes "];\n") control target places.0 places.1 c.in_ok-rest.rest.now rest (omega (arith, c.in_ok-control.ensures)) (omega (arith, c.in_ok-target.ensures)) (omega (arith, fits)) (omega (arith, fits)) (sym read ∙ (e ∙ controlled_x_text-pieces places.0 places.1 rest)) in
    let equals = eqb-true control target (not-false _ equal) in
    fits.2 (sym same.0 ∙ (equals ∙ same.1))))
