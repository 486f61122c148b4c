use Rattle.std.proofs.Common.{◌≡◌, ℕ, ℤ, pos, true, FitsSigned, rules, ap, sym, ◌∙◌}
use lib.Signed.{lt_z}
use mir.Syntax.{w32}
use Rattle.std.specs.Prelude.{unsigned_abs}
use Rattle.std.proofs.lemmas.Result.{err_from_is_err_and}
use Rattle.qt_root2.specs.Numerators.{root2_of}
use Rattle.qt_root2.specs.Root2.{Root2, times_root2, power}
use Rattle.qt_root2.specs.Scaling.{unit, unit_inverse, unit_power}
use Rattle.qt_root2.proofs.Ring.{conjugate, same_root2, conjugate-conjugate, conjugate_raised, unit_power_negative}
use Rattle.qt_root2.proofs.Words.{word-fits, short, short_negative, short_size}
use Rattle.qt_root2.proofs.numerator.Numerator.times_units.Goals as goal

-- the conjugate of the conjugate's product is the product
by_conjugate : (x y : Root2) (z : ℤ) (n : ℕ) → y ≡ conjugate x → FitsSigned w32 z → lt_z (short z) (pos 0) ≡ true → n ≡ unsigned_abs (short z) → conjugate (times_root2 y (power unit n)) ≡ times_root2 x (unit_power z)
by_conjugate x y z n e f l h =
    ap (λ u. conjugate (times_root2 u (power unit n))) e
    ∙ ap conjugate (conjugate_raised x n)
    ∙ conjugate-conjugate (times_root2 x (power unit_inverse n))
    ∙ ap (times_root2 x) (sym (unit_power_negative z n (short_negative z f l) (short_size z n f h)))

pub returns-in_err-conjugate-clause-fault : goal.returns-in_err-conjugate-clause-fault
returns-in_err-conjugate-clause-fault c =
    let x = root2_of c.args.self in
    let y = root2_of c.conjugate.result in
    let e = by_conjugate x y c.args.units c.unsigned_abs-steps.result (same_root2 y (conjugate x) c.conjugate.ensures.a c.conjugate.ensures.b) (search rules) c.if-units-lt0.true c.unsigned_abs-steps.ensures.value in
    let p = err_from_is_err_and c.from_residual.result c.from_residual.ensures.1 in
    let limit = word-fits c.args.limit (search rules) in
    rw p.1 (rw (limit, ap (λ r. r.a) e) at c.in_err-conjugate.ensures.fault)

pub returns-in_ok-conjugate-clause-ok : goal.returns-in_ok-conjugate-clause-ok
returns-in_ok-conjugate-clause-ok c =
    let x = root2_of c.args.self in
    let y = root2_of c.conjugate.result in
    let z = root2_of c.conjugate-then-units-lt0.result in
    let w = root2_of c.in_ok-conjugate.conjugate in
    let e = by_conjugate x y c.args.units c.unsigned_abs-steps.result (same_root2 y (conjugate x) c.conjugate.ensures.a c.conjugate.ensures.b) (search rules) c.if-units-lt0.true c.unsigned_abs-steps.ensures.value in
    same_root2 z (conjugate w) c.conjugate-then-units-lt0.ensures.a c.conjugate-then-units-lt0.ensures.b ∙ ap conjugate c.in_ok-conjugate.ensures.ok ∙ e
