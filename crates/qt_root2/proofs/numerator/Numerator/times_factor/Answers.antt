use Rattle.std.proofs.Common.{◌≡◌, ◌^◌, ℤ, pos, ◌≤ℤ◌, rules, ap, ◌∙◌, subst}
use Rattle.std.proofs.lemmas.Result.{IfOk-weaker, on_err_weaker, err_from_is_err_and}
use Rattle.qt_root2.specs.declared.numerator.Numerator.{Numerator}
use Rattle.qt_root2.specs.Numerators.{root2_of}
use Rattle.qt_root2.specs.Root2.{Root2, times_root2, power}
use Rattle.qt_root2.specs.Scaling.{prime, unit_power}
use Rattle.qt_root2.proofs.Scales.{prime_power_none, factor_ok, factor_fault}
use Rattle.qt_root2.proofs.Words.{short, short-fits}
use Rattle.qt_root2.proofs.numerator.Numerator.times_factor.Goals as goal

pub returns-then-primes-eq0-clause-ok : goal.returns-then-primes-eq0-clause-ok
returns-then-primes-eq0-clause-ok c =
    let x = root2_of c.args.self in
    let u = unit_power c.args.units in
    let p = ap (times_root2 x) (ap unit_power (short-fits c.args.units (search rules)) ∙ prime_power_none u c.args.primes c.if-primes-eq0.true) in
    let Was = λ (q : Numerator). root2_of q ≡ times_root2 x (unit_power (short c.args.units)) in
    let Is = λ (q : Numerator). root2_of q ≡ times_root2 x (times_root2 u (power prime c.args.primes)) in
    IfOk-weaker c.times_units.result Was Is (λ q e. e ∙ p) c.times_units.ensures.ok

pub returns-then-primes-eq0-clause-fault : goal.returns-then-primes-eq0-clause-fault
returns-then-primes-eq0-clause-fault c =
    let x = root2_of c.args.self in
    let u = unit_power c.args.units in
    let p = ap (times_root2 x) (ap unit_power (short-fits c.args.units (search rules)) ∙ prime_power_none u c.args.primes c.if-primes-eq0.true) in
    let P = λ (w : Root2). pos (2 ^ 100) ≤ℤ w.a in
    on_err_weaker c.times_units.result (λ h. subst P p h) c.times_units.ensures.fault

pub returns-clause-ok : goal.returns-clause-ok
returns-clause-ok c =
    let x = root2_of c.args.self in
    factor_ok x (root2_of c.in_ok-number.number) (root2_of c.times_prime.result) (short c.args.units) c.args.primes c.requires c.if-primes-eq0.false c.in_ok-number.ensures.ok c.times_prime.ensures
    ∙ ap (λ z. times_root2 x (times_root2 (unit_power z) (power prime c.args.primes))) (short-fits c.args.units (search rules))

pub returns-in_err-number-clause-fault : goal.returns-in_err-number-clause-fault
returns-in_err-number-clause-fault c =
    let x = root2_of c.args.self in
    let P = λ (z : ℤ). pos (2 ^ 100) ≤ℤ (times_root2 x (times_root2 (unit_power z) (power prime c.args.primes))).a in
    let p = err_from_is_err_and c.from_residual.result c.from_residual.ensures.1 in
    rw p.1 (subst P (short-fits c.args.units (search rules)) (factor_fault x (short c.args.units) (pos (2 ^ 100)) c.args.primes c.args.self.good c.requires c.if-primes-eq0.false c.in_err-number.ensures.fault))
