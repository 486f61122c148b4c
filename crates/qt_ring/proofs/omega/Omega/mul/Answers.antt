use Rattle.std.proofs.Common.{◌∙◌, arith}
use Rattle.qt_ring.proofs.RingLaws.{same}
use Rattle.qt_ring.proofs.Coefficients.{wide_is}
use Rattle.qt_ring.proofs.Rows.{IsTurning, rows_are}
use Rattle.qt_ring.proofs.omega.Omega.mul.Goals as goal

pub returns-clause-value : goal.returns-clause-value
returns-clause-value c =
    let turning : IsTurning c.args.other c.conj-first.result c.turned-second.result c.turned-third.result c.turned-fourth.result = record { first = c.conj-first.ensures.value; second = c.turned-second.ensures.value; third = c.turned-third.ensures.value; fourth = c.turned-fourth.ensures.value } in
    let rows = rows_are c.args.self c.args.other c.conj-first.result c.turned-second.result c.turned-third.result c.turned-fourth.result turning in
    same _ _
    (wide_is c.dot.result (omega arith) ∙ c.dot.ensures.value ∙ rows.0)
    (wide_is c.dot-2.result (omega arith) ∙ c.dot-2.ensures.value ∙ rows.1)
    (wide_is c.dot-3.result (omega arith) ∙ c.dot-3.ensures.value ∙ rows.2)
    (wide_is c.dot-4.result (omega arith) ∙ c.dot-4.ensures.value ∙ rows.3)
