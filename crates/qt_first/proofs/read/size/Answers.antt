use Rattle.std.proofs.Common.{◌<◌, arith}
use Rattle.std.proofs.lemmas.Bool.{ltb-true, ltb-false}
use Rattle.qt_first.specs.Pieces.{IsSize, number_text}
use Rattle.qt_first.proofs.Pieces.{BeginsWith-then_some, past_number_text}
use Rattle.qt_first.proofs.read.size.Goals as goal

pub returns : goal.returns
returns c =
    rw c.then_some.ensures
    (BeginsWith-then_some IsSize (number_text c.args.opening.now) c.args.text.now _ c.in_ok-size.size c.in_ok-size.rest
    (λ some. let above : 0 < c.in_ok-size.size = ltb-true 0 c.in_ok-size.size some in ((omega arith, omega (arith, c.in_ok-size.ensures)), c.in_ok-size.ensures.1))
    (λ none other left fits e.
    let same = past_number_text c.args.opening.now c.in_ok-size.size other c.args.text.now c.in_ok-size.rest.now left (omega (arith, c.in_ok-size.ensures)) (omega (arith, fits)) c.in_ok-size.ensures.1 e in
    omega (arith, ltb-false 0 c.in_ok-size.size none)))
