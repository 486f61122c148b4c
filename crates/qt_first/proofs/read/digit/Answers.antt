use Rattle.std.proofs.Common.{◌≡◌, ◌<◌, ◌+◌, ◌∷◌, ◌∙◌, sym, arith}
use Rattle.std.specs.Fmt.{decimal}
use Rattle.std.proofs.lemmas.Bool.{ltb-true, ltb-false}
use Rattle.qt_first.proofs.Pieces.{BeginsWith-then_some, decimal-first, decimal_nonempty, decimal-onto}
use Rattle.qt_first.proofs.read.digit.Goals as goal

pub returns-in_err-digit : goal.returns-in_err-digit
returns-in_err-digit c =
    rw c.from_residual.ensures
    (λ n rest small e. decimal_nonempty n rest c.args.text.now (omega arith) e c.in_err-digit.ensures.cases)

pub returns-in_err-number : goal.returns-in_err-number
returns-in_err-number c =
    rw c.from_residual-in_err-number.ensures
    (λ n rest small e.
    let bytes : c.args.text.now ≡ c.in_ok-digit.digit ∷ c.in_ok-digit.rest.now = cc c.in_ok-digit.ensures.cases.0 in
    let first = decimal-first n c.in_ok-digit.digit rest c.in_ok-digit.rest.now (omega arith) (sym bytes ∙ e) in
    c.in_err-number.ensures (omega arith))

pub returns : goal.returns
returns c =
    let bytes : c.args.text.now ≡ c.in_ok-digit.digit ∷ c.in_ok-digit.rest.now = cc c.in_ok-digit.ensures.cases.0 in
    let is_digit : c.in_ok-digit.digit ≡ 48 + c.in_ok-number.number = omega (arith, c.in_ok-number.ensures) in
    rw c.then_some.ensures
    (BeginsWith-then_some (λ n. n < c.args.bound) decimal c.args.text.now _ c.in_ok-number.number c.in_ok-digit.rest
    (λ below.
    let fits : c.in_ok-number.number < c.args.bound = ltb-true c.in_ok-number.number c.args.bound below in
    (fits, bytes ∙ decimal-onto c.in_ok-number.number c.in_ok-digit.digit c.in_ok-digit.rest.now is_digit (omega arith)))
    (λ above n rest small e.
    let first = decimal-first n c.in_ok-digit.digit rest c.in_ok-digit.rest.now (omega arith) (sym bytes ∙ e) in
    omega (arith, ltb-false c.in_ok-number.number c.args.bound above)))
