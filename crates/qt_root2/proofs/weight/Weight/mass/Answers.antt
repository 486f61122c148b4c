use Rattle.std.proofs.Common.{◌≡◌, ◌^◌, ℤ, pos, arith, rules, refl, ap, ◌+ℤ◌, ◌*ℤ◌, ◌≤ℤ◌, ◌<ℤ◌, FitsSigned}
use mir.Syntax.{w128}
use Rattle.std.proofs.lemmas.Int.{ints}
use Rattle.qt_root2.proofs.Words.{word, word-fits, at_least, not_at_least, at_most}
use Rattle.qt_root2.proofs.weight.Weight.mass.Goals as goal

whole : (p a b c d : ℤ) → FitsSigned w128 a → FitsSigned w128 b → FitsSigned w128 c → FitsSigned w128 d → p ≡ word a *ℤ word c +ℤ pos 2 *ℤ (word b *ℤ word d) → p ≡ a *ℤ c +ℤ pos 2 *ℤ (b *ℤ d)
whole p a b c d f g h k e = rw (word-fits a f, word-fits b g, word-fits c h, word-fits d k) at e

first_is : (p a c : ℤ) → FitsSigned w128 a → FitsSigned w128 c → p ≡ word a *ℤ word c → p ≡ a *ℤ c
first_is p a c f h e = rw (word-fits a f, word-fits c h) at e

above : (p q m : ℤ) → p ≡ q → m ≤ℤ p → q <ℤ m → ⊥
above p q m e h g = omega (arith, ints)

pub returns-then-product-clause-ok : goal.returns-then-product-clause-ok
returns-then-product-clause-ok c =
    let p = c.times-product.result in
    let e = whole p.a c.args.self.a c.args.self.b c.args.norm.0 c.args.norm.1 (search rules) (search rules) (search rules) (search rules) (ap (λ r. r.a) c.times-product.ensures) in
    let large = at_least (pos (2 ^ 100)) p.a (search rules) c.if-product.true in
    (λ e. cc, λ h. absurd (above _ _ _ e large h.1))

pub invariant_of-result : goal.invariant_of-result
invariant_of-result c =
    let p = c.times-product.result in
    rw (word-fits p.a (search rules), word-fits p.b (search rules)) record { good = p.good; bounded = omega (arith, ints, c.if-product.false) }

pub returns-clause-ok : goal.returns-clause-ok
returns-clause-ok c =
    let p = c.times-product.result in
    let e = whole p.a c.args.self.a c.args.self.b c.args.norm.0 c.args.norm.1 (search rules) (search rules) (search rules) (search rules) (ap (λ r. r.a) c.times-product.ensures) in
    let f = first_is c.in-Some.first c.args.self.a c.args.norm.0 (search rules) (search rules) c.in-Some.ensures.1 in
    let small = at_most c.in-Some.first (pos (2 ^ 125)) (search rules) c.if-first.true in
    let below = not_at_least (pos (2 ^ 100)) p.a (search rules) c.if-product.false in
    (λ y. (rw f at small, rw e at below), λ h. refl)
