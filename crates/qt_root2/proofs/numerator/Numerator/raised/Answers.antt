use Rattle.std.proofs.Common.{◌^◌, ◌-◌, ℤ, pos, negsuc, arith, rules, refl, ap, ◌≡◌, ◌+ℤ◌, ◌*ℤ◌, ◌≤ℤ◌, ◌<ℤ◌, FitsSigned}
use lib.Signed.{≤ℤ_refl}
use mir.Syntax.{w128}
use Rattle.std.proofs.lemmas.Int.{ints}
use Rattle.std.proofs.lemmas.Bool.{false≢true}
use Rattle.qt_root2.specs.Numerators.{root2_of}
use Rattle.qt_root2.specs.Root2.{Root2, IsGood}
use Rattle.qt_root2.proofs.Good.{narrow}
use Rattle.qt_root2.proofs.Loops.{power_more, power_end, power_rises}
use Rattle.qt_root2.proofs.Words.{both_at_least, both_not_at_least}
use Rattle.qt_root2.proofs.numerator.Numerator.raised.Goals as goal
use Rattle.qt_root2.proofs.numerator.Numerator.raised.Goals.{else-number-limit-via-then-number-limit+else-rises, else-number-limit-via-else-number-limit}

at_most_that : (m a : ℤ) (x y : Root2) → m ≤ℤ a → a ≤ℤ x.a → x ≡ y → m ≤ℤ y.a
at_most_that m a x y h g e = let f = ap (λ r. r.a) e in omega (arith, ints)

below_room : (a b m : ℤ) → IsGood a b → a <ℤ m → m ≤ℤ pos (2 ^ 101) → (pos 3 *ℤ a +ℤ pos 4 *ℤ b) <ℤ pos (2 ^ 127)
below_room a b m good h g = let n = narrow a b good in omega (arith, ints)

falling_room : (a b : ℤ) → FitsSigned w128 a → (pos 0 ≤ℤ (a +ℤ pos 2 *ℤ b) → ⊥) → (pos 3 *ℤ a +ℤ pos 4 *ℤ b) <ℤ pos (2 ^ 127)
falling_room a b f h = let n = negative (a +ℤ pos 2 *ℤ b) h in omega (arith, ints)
  where
    negative : (z : ℤ) → (pos 0 ≤ℤ z → ⊥) → z <ℤ pos 0
    negative (pos n) h = absurd (h (omega (arith, ints)))
    negative (negsuc n) h = omega (arith, ints)

pub returns-then-rises-clause-fault : goal.returns-then-rises-clause-fault
returns-then-rises-clause-fault c =
    let l = c.loop-step in
    let large = both_at_least c.args.limit l.number.a (search rules) (search rules) c.if-number-limit.true in
    let more = power_rises (c.args.steps - l._step) (root2_of l.number) l.number.good.0 (c.if-rises.ensures.0 refl) in
    at_most_that c.args.limit l.number.a _ _ large more l.invariant

pub times_unit-number-requires : goal.times_unit-number-requires
times_unit-number-requires c = elim c.else-number-limit.branch [
  | else-number-limit-via-then-number-limit+else-rises w ↦ falling_room c.loop-step.number.a c.loop-step.number.b (search rules) (λ h. false≢true (w.if-rises.ensures.1 h))
  | else-number-limit-via-else-number-limit w ↦
      let below = both_not_at_least c.args.limit c.loop-step.number.a (search rules) (search rules) w.if-number-limit.false in
      below_room c.loop-step.number.a c.loop-step.number.b c.args.limit c.loop-step.number.good below c.requires
]

pub loop-step-preserved : goal.loop-step-preserved
loop-step-preserved c =
    let l = c.loop-step in
    power_more (root2_of l.number) (root2_of c.times_unit-number.result) _ c.args.steps l._step c.loop-step-test.true c.times_unit-number.ensures l.invariant

pub returns-then-number-limit-2-clause-fault : goal.returns-then-number-limit-2-clause-fault
returns-then-number-limit-2-clause-fault c =
    let l = c.loop-step in
    let large = both_at_least c.args.limit l.number.a (search rules) (search rules) c.if-number-limit-2.true in
    let e = power_end (root2_of l.number) _ c.args.steps l._step c.loop-step-test.false l.invariant in
    at_most_that c.args.limit l.number.a (root2_of l.number) _ large (≤ℤ_refl l.number.a) e

pub returns-clause-ok : goal.returns-clause-ok
returns-clause-ok c =
    let l = c.loop-step in
    power_end (root2_of l.number) _ c.args.steps l._step c.loop-step-test.false l.invariant
