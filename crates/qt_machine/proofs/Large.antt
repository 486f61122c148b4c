-- Factors and divisors above all phases in size.
use Rattle.std.proofs.Common.{◌≡◌, zero, suc, ◌*◌, ◌^◌, ◌<◌, ◌≤◌, ◌%◌, ◌==◌, true, false, cond, refl, ap, ◌∙◌, arith, ℤ, pos, negsuc, ◌*ℤ◌, unsigned_abs, neg_ℤ, Some, None, Ok, Err, eq-eqb}
use Rattle.std.proofs.lemmas.Bool.{lt-leb}
use Rattle.std.proofs.lemmas.Int.{ints, unsigned_abs-mul}
use Rattle.std.proofs.Math.Nat.{mul-le-mul_right, mod-eq_of_lt, zero-mod, zero-div}
use Rattle.std.specs.Int.RustNames.{int_div}
use Rattle.qt_phase.specs.Phase.{phase_of, divides, exact_quotient}
use Rattle.qt_phase.specs.declared.phase.PhaseFault.TheVariants.{Range, NotExact}
use Rattle.qt_gate_calls.specs.Units.{exactly}
use Rattle.qt_machine.proofs.Bits.{not_same}
use Rattle.qt_machine.specs.Phases.{if_nothing}

too_large : (units : ℤ) → 2 ^ 60 < unsigned_abs units → exactly (phase_of units) ≡ None
too_large units h = ap (λ t. exactly (cond t (Ok units) (Err Range))) (lt-leb (unsigned_abs units) (2 ^ 60) h)

large_times : (x k : ℤ) → 0 < unsigned_abs x → 2 ^ 64 < unsigned_abs k → 2 ^ 60 < unsigned_abs (x *ℤ k)
large_times x k h l =
    let e = unsigned_abs-mul x k in
    let m : 1 * unsigned_abs k ≤ unsigned_abs x * unsigned_abs k = mul-le-mul_right (unsigned_abs k) h in
    omega arith

pub large_product : (x k : ℤ) → 2 ^ 64 < unsigned_abs k → exactly (phase_of (x *ℤ k)) ≡ if_nothing x
large_product (pos zero) k h = let e : pos 0 *ℤ k ≡ pos 0 = omega (arith, ints) in rw e refl
large_product (pos (suc n)) k h = too_large (pos (suc n) *ℤ k) (large_times (pos (suc n)) k (omega arith) h)
large_product (negsuc n) k h = too_large (negsuc n *ℤ k) (large_times (negsuc n) k (omega arith) h)

divides_by : (k x : ℤ) → 0 < unsigned_abs k → divides k x ≡ (unsigned_abs x % unsigned_abs k == 0)
divides_by (pos zero) x h = absurd (omega arith)
divides_by (pos (suc n)) x h = refl
divides_by (negsuc n) x h = refl

none_divides : (k x : ℤ) → 0 < unsigned_abs x → unsigned_abs x < unsigned_abs k → divides k x ≡ false
none_divides k x h l =
    divides_by k x (omega arith)
    ∙ ap (λ t. t == 0) (mod-eq_of_lt l)
    ∙ not_same _ 0 (omega arith)

not_exact : (x k : ℤ) → divides k x ≡ false → exactly (exact_quotient x k) ≡ None
not_exact x k e = ap (λ t. exactly (cond t (Ok (int_div x k)) (Err NotExact))) e

nothing_over : (k : ℤ) → 0 < unsigned_abs k → int_div (pos 0) k ≡ pos 0
nothing_over (pos zero) h = absurd (omega arith)
nothing_over (pos (suc n)) h = ap pos (zero-div (suc n))
nothing_over (negsuc n) h = ap (λ k. neg_ℤ (pos k)) (zero-div (suc n))

pub large_quotient : (x k : ℤ) → unsigned_abs x ≤ 2 ^ 60 → 2 ^ 64 < unsigned_abs k → exactly (exact_quotient x k) ≡ if_nothing x
large_quotient (pos zero) k s h =
    let z : 0 < unsigned_abs k = omega arith in
    let e : divides k (pos 0) ≡ true = divides_by k (pos 0) z ∙ eq-eqb _ 0 (zero-mod (unsigned_abs k)) in
    ap (λ t. exactly (cond t (Ok (int_div (pos 0) k)) (Err NotExact))) e ∙ ap Some (nothing_over k z)
large_quotient (pos (suc n)) k s h = not_exact _ k (none_divides k (pos (suc n)) (omega arith) (omega arith))
large_quotient (negsuc n) k s h = not_exact _ k (none_divides k (negsuc n) (omega arith) (omega arith))
