-- Powers of ε and of its inverse.
use Rattle.std.proofs.Common.{◌≡◌, ℕ, zero, suc, ◌+◌, ◌-◌, ◌≤◌, refl, sym, ap, ◌∙◌, arith, ℤ, pos, negsuc, ◌+ℤ◌}
use Rattle.std.specs.Int.RustNames.{unsigned_abs}
use lib.IntN.{neg_ℤ}
use Rattle.std.proofs.lemmas.Int.{ints}
use Rattle.qt_ring.specs.Ring.{one, times, epsilon, epsilon_inverse}
use Rattle.qt_ring.proofs.RingLaws.{times_comm, times-one, one-times, times_both, times_cross}
use Rattle.qt_ring.proofs.Units.{epsilon_times_inverse}
use Rattle.qt_canon_laws.specs.Powers.{power, epsilon_power}
use Rattle.qt_canon_laws.proofs.Smooth.{power-plus}

pub inverse_back : (n : ℕ) → times (power epsilon_inverse n) (power epsilon n) ≡ one
inverse_back zero = times-one one
inverse_back (suc n) = times_cross epsilon_inverse (power epsilon_inverse n) epsilon (power epsilon n) ∙ times_both _ _ _ _ (times_comm epsilon_inverse epsilon ∙ epsilon_times_inverse) (inverse_back n) ∙ times-one one

pub inverse_after : (n : ℕ) → times (power epsilon n) (power epsilon_inverse n) ≡ one
inverse_after n = times_comm (power epsilon n) (power epsilon_inverse n) ∙ inverse_back n

-- a power and the opposite one
pub opposite_powers : (m : ℤ) → times (epsilon_power m) (epsilon_power (neg_ℤ m)) ≡ one
opposite_powers (pos zero) = times-one one
opposite_powers (pos (suc n)) = inverse_after (suc n)
opposite_powers (negsuc n) = inverse_back (suc n)

pub epsilon_power-neg : (n : ℕ) → epsilon_power (neg_ℤ (pos n)) ≡ power epsilon_inverse n
epsilon_power-neg zero = refl
epsilon_power-neg (suc n) = refl

-- ---- powers without a negative exponent
inverse_off : (n m : ℕ) → times (power epsilon (n + m)) (power epsilon_inverse m) ≡ power epsilon n
inverse_off n zero = let z : n + zero ≡ n = omega arith in times-one _ ∙ ap (power epsilon) z
inverse_off n (suc m) =
    let z : n + suc m ≡ suc (n + m) = omega arith in
    ap (λ t. times (power epsilon t) (power epsilon_inverse (suc m))) z
    ∙ times_cross epsilon (power epsilon (n + m)) epsilon_inverse (power epsilon_inverse m)
    ∙ times_both _ _ _ _ epsilon_times_inverse (inverse_off n m) ∙ one-times _

pub shifted : (n : ℕ) (m : ℤ) (k : ℕ) → pos n +ℤ m ≡ pos k → times (power epsilon n) (epsilon_power m) ≡ power epsilon k
shifted n (pos m) k e = sym (power-plus epsilon n m) ∙ (let z : n + m ≡ k = omega (arith, ints) in ap (power epsilon) z)
shifted n (negsuc m) k e = let z : n ≡ k + suc m = omega (arith, ints) in ap (λ t. times (power epsilon t) (power epsilon_inverse (suc m))) z ∙ inverse_off k (suc m)

pub lifted_above_zero : (n : ℕ) (m : ℤ) → unsigned_abs m ≤ n → (k : ℕ) × (pos n +ℤ m ≡ pos k)
lifted_above_zero n (pos m) h = (n + m, omega (arith, ints))
lifted_above_zero n (negsuc m) h = (n - suc m, omega (arith, ints))
