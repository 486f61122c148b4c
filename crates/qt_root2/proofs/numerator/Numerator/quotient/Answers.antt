use Rattle.std.proofs.Common.{◌≡◌, ◌-◌, ap, sym, ◌∙◌}
use Rattle.std.proofs.lemmas.Result.{IfOk-weaker, on_err_weaker}
use Rattle.qt_root2.specs.declared.numerator.Numerator.{Numerator}
use Rattle.qt_root2.specs.Numerators.{root2_of}
use Rattle.qt_root2.specs.Root2.{times_root2, power}
use Rattle.qt_root2.specs.Scaling.{lifted_root2, prime}
use Rattle.qt_root2.proofs.Ring.{lifted_root2_same}
use Rattle.qt_root2.proofs.Scales.{prime_power_one, lifted_last}
use Rattle.qt_root2.proofs.numerator.Numerator.quotient.Goals as goal

pub returns-in-Some-clause-ok : goal.returns-in-Some-clause-ok
returns-in-Some-clause-ok c =
    let x = root2_of c.args.self in
    let half = root2_of c.in-Some.half in
    let n = c.args.twos in
    let p = ap (times_root2 x) (prime_power_one c.args.primes c.requires.primes c.if-primes-eq0.false) in
    let Was = λ (q : Numerator). lifted_root2 (root2_of q) (n - 1) ≡ half in
    let Is = λ (q : Numerator). lifted_root2 (root2_of q) n ≡ times_root2 x (power prime c.args.primes) in
    IfOk-weaker c.halvings-in-Some.result Was Is (λ q e. sym (lifted_last (root2_of q) n c.requires.twos) ∙ ap (λ u. lifted_root2 u 1) e ∙ c.in-Some.ensures.half ∙ p) c.halvings-in-Some.ensures.ok

pub returns-in-Some-clause-fault : goal.returns-in-Some-clause-fault
returns-in-Some-clause-fault c =
    let x = root2_of c.args.self in
    let half = root2_of c.in-Some.half in
    let n = c.args.twos in
    let p = ap (times_root2 x) (prime_power_one c.args.primes c.requires.primes c.if-primes-eq0.false) in
    on_err_weaker c.halvings-in-Some.result (λ odd y e. odd y (lifted_root2_same 1 (lifted_root2 y (n - 1)) half (lifted_last y n c.requires.twos ∙ e ∙ sym p ∙ sym c.in-Some.ensures.half))) c.halvings-in-Some.ensures.fault

pub returns-in-None-clause-fault : goal.returns-in-None-clause-fault
returns-in-None-clause-fault c = λ y e.
    let x = root2_of c.args.self in
    let n = c.args.twos in
    let p = ap (times_root2 x) (prime_power_one c.args.primes c.requires.primes c.if-primes-eq0.false) in
    c.in-None.ensures.odd (lifted_root2 y (n - 1)) (lifted_last y n c.requires.twos ∙ e ∙ sym p)
