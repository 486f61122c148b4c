use Rattle.std.proofs.Common.{◌≡◌, rules, sym, ap, ◌∙◌}
use Rattle.qt_root2.specs.Real.{least}
use Rattle.qt_root2.specs.Root2.{Root2}
use Rattle.qt_root2.proofs.Reals.{over, least_halved, least_odd, least_none}
use Rattle.qt_root2.proofs.Words.{word-fits}
use Rattle.qt_root2.proofs.numerator.Numerator.over.Goals as goal
use Rattle.qt_root2.proofs.numerator.Numerator.over.Goals.{else-loop-exponent-test, then-loop-exponent-test+in-None}

pub loop-exponent-preserved : goal.loop-exponent-preserved
loop-exponent-preserved c =
    let l = c.loop-exponent in
    least_halved l.exponent l.number.a l.number.b _ _ c.loop-exponent-test.true (ap (λ r. r.a) c.in-Some.ensures.half) (ap (λ r. r.b) c.in-Some.ensures.half) ∙ l.invariant

pub returns : goal.returns
returns c =
    let l = c.loop-exponent in
    let e : least l.exponent l.number.a l.number.b ≡ over l.exponent l.number.a l.number.b = elim c.loop-exponent-test.branch [
      | else-loop-exponent-test w ↦ least_none l.exponent l.number.a l.number.b w.loop-exponent-test.false
      | then-loop-exponent-test+in-None w ↦ least_odd l.exponent l.number.a l.number.b (λ x y f g. let r : Root2 = record { a = x; b = y } in w.in-None.ensures.odd r cc)
    ] in
    rw (word-fits l.number.a (search rules), word-fits l.number.b (search rules)) (sym e ∙ l.invariant)
