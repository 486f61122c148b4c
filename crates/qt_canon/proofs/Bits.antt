-- A power of 2 divides the bitwise OR of numbers where it divides each of them.
use Rattle.std.proofs.Common.{◌≡◌, ℕ, zero, suc, ◌+◌, ◌-◌, ◌*◌, ◌%◌, ◌^◌, ◌<◌, ◌≤◌, List, take, length, get_or, sym, ap, ◌∙◌, arith}
use Rattle.std.specs.Int.{w64, bit_at, trailing_zeros}
use Rattle.std.specs.Int.RustNames.{bit_or, unsigned_abs}
use Rattle.std.specs.Prelude.{◌↔◌, ◌⊎◌}
use mathlib.Core.Logic.{inl, inr}
use Rattle.std.proofs.lemmas.Nat.{or_mod, le_or_l, le_or_r, mod-pow-add}
use Rattle.std.proofs.lemmas.Nat.Bits.{bit_at-trailing_zeros}
use Rattle.qt_ring.specs.declared.omega.Omega.{Omega}
use Rattle.qt_ring.specs.Ring.{two_to}
use Rattle.qt_ring.specs.Division.{Divides}
use Rattle.qt_ring.specs.Multiples.{DividesAll}
use Rattle.qt_canon_laws.proofs.Order.{nat_three_ways}
use Rattle.qt_canon.proofs.Entries.{divides_more, divides_less}
use Rattle.qt_canon.proofs.Wholes.{IsOver, over_of, over_to}

pub or_over : (a b t : ℕ) → bit_or a b % 2 ^ t ≡ 0 → (a % 2 ^ t ≡ 0) × (b % 2 ^ t ≡ 0)
or_over a b t e =
    let z : bit_or (a % 2 ^ t) (b % 2 ^ t) ≡ 0 = sym (or_mod a b t) ∙ e in
    let p : a % 2 ^ t ≤ bit_or (a % 2 ^ t) (b % 2 ^ t) = le_or_l (a % 2 ^ t) (b % 2 ^ t) in
    let q : b % 2 ^ t ≤ bit_or (a % 2 ^ t) (b % 2 ^ t) = le_or_r (a % 2 ^ t) (b % 2 ^ t) in
    (omega arith, omega arith)

pub over_or : (a b t : ℕ) → a % 2 ^ t ≡ 0 → b % 2 ^ t ≡ 0 → bit_or a b % 2 ^ t ≡ 0
over_or a b t e f = or_mod a b t ∙ ap (λ k. bit_or k (b % 2 ^ t)) e ∙ ap (bit_or 0) f

four_over : (x : Omega) (p q r s t : ℕ) → p ≡ unsigned_abs x.c0 → q ≡ unsigned_abs x.c1 → r ≡ unsigned_abs x.c2 → s ≡ unsigned_abs x.c3 → ((bit_or (bit_or (bit_or p q) r) s % 2 ^ t ≡ 0) ↔ IsOver t x)
four_over x p q r s t a b c d = (
  (λ e.
      let u = or_over (bit_or (bit_or p q) r) s t e in
      let v = or_over (bit_or p q) r t u.0 in
      let w = or_over p q t v.0 in
      record { c0_over = ap (λ n. n % 2 ^ t) (sym a) ∙ w.0; c1_over = ap (λ n. n % 2 ^ t) (sym b) ∙ w.1; c2_over = ap (λ n. n % 2 ^ t) (sym c) ∙ v.1; c3_over = ap (λ n. n % 2 ^ t) (sym d) ∙ u.1 }),
  (λ o. over_or _ s t (over_or _ r t (over_or p q t (ap (λ n. n % 2 ^ t) a ∙ o.c0_over) (ap (λ n. n % 2 ^ t) b ∙ o.c1_over)) (ap (λ n. n % 2 ^ t) c ∙ o.c2_over)) (ap (λ n. n % 2 ^ t) d ∙ o.c3_over)),
)

pub four_bits : (x : Omega) (p q r s t : ℕ) → p ≡ unsigned_abs x.c0 → q ≡ unsigned_abs x.c1 → r ≡ unsigned_abs x.c2 → s ≡ unsigned_abs x.c3 → ((bit_or (bit_or (bit_or p q) r) s % 2 ^ t ≡ 0) ↔ Divides (two_to t) x)
four_bits x p q r s t a b c d = let f = four_over x p q r s t a b c d in ((λ e. over_to t x (f.0 e)), (λ m. f.1 (over_of t x m)))

-- ---- the lowest bit that is set
zero_times : (m : ℕ) → 0 * m ≡ 0
zero_times m = omega arith

one_time : (m : ℕ) → 1 * m ≡ m
one_time m = omega arith

no_rest : (m n : ℕ) → m + n ≡ 0 → n ≡ 0
no_rest m n e = omega arith

positive : (t : ℕ) → 0 < 2 ^ t
positive zero = omega arith
positive (suc t) = let h : 0 < 2 ^ t = positive t in omega arith

last_bit : (n t : ℕ) → n % 2 ^ suc t ≡ bit_at n t * 2 ^ t + n % 2 ^ t
last_bit n t = let z : suc t ≡ 1 + t = omega arith in ap (λ k. n % 2 ^ k) z ∙ mod-pow-add n 1 t

low_bits : (n t : ℕ) → ((i : ℕ) → i < t → bit_at n i ≡ 0) → n % 2 ^ t ≡ 0
low_bits n zero h = omega arith
low_bits n (suc t) h =
    let e : bit_at n t * 2 ^ t ≡ 0 = ap (λ (b : ℕ). b * 2 ^ t) (h t (omega arith)) ∙ zero_times (2 ^ t) in
    let r : n % 2 ^ t ≡ 0 = low_bits n t (λ i l. h i (omega arith)) in
    last_bit n t ∙ omega arith

less_power : (n t k : ℕ) → n % 2 ^ k ≡ 0 → t < k → n % 2 ^ suc t ≡ 0
less_power n t k e l =
    let j : ℕ = k - suc t in
    let z : j + suc t ≡ k = omega arith in
    let f : n % 2 ^ (j + suc t) ≡ 0 = ap (λ m. n % 2 ^ m) z ∙ e in
    no_rest _ (n % 2 ^ suc t) (sym (mod-pow-add n j (suc t)) ∙ f)

high_bit : (n t k : ℕ) → bit_at n t ≡ 1 → n % 2 ^ k ≡ 0 → t < k → ⊥
high_bit n t k b e l =
    let f : bit_at n t * 2 ^ t + n % 2 ^ t ≡ 0 = sym (last_bit n t) ∙ less_power n t k e l in
    let g : bit_at n t * 2 ^ t ≡ 2 ^ t = ap (λ (c : ℕ). c * 2 ^ t) b ∙ one_time (2 ^ t) in
    let h : 0 < 2 ^ t = positive t in
    absurd (omega arith)

pub record IsLowest (n t : ℕ) : Type 0 where
  pub whole : n % 2 ^ t ≡ 0
  pub greatest : (k : ℕ) → n % 2 ^ k ≡ 0 → k ≤ t

not_more : (n t k : ℕ) → bit_at n t ≡ 1 → n % 2 ^ k ≡ 0 → (k < t) ⊎ ((k ≡ t) ⊎ (t < k)) → k ≤ t
not_more n t k b e (inl l) = omega arith
not_more n t k b e (inr (inl f)) = omega arith
not_more n t k b e (inr (inr l)) = absurd (high_bit n t k b e l)

pub lowest_bit : (n : ℕ) → 0 < n → n < 2 ^ 64 → IsLowest n (trailing_zeros w64 n)
lowest_bit n some fits =
    let h = bit_at-trailing_zeros w64 n some fits in
    let t : ℕ = trailing_zeros w64 n in
    record { whole = low_bits n t h.2; greatest = λ k e. not_more n t k h.1 e (nat_three_ways k t) }

-- ---- of the entries of a list
pub joined_more : (v : List Omega) (i bits more : ℕ) (d : Omega) → i < length v
    → ((t : ℕ) → ((bits % 2 ^ t ≡ 0) ↔ DividesAll (two_to t) (take i v)))
    → ((t : ℕ) → ((more % 2 ^ t ≡ 0) ↔ Divides (two_to t) (get_or v i d)))
    → (t : ℕ) → ((bit_or bits more % 2 ^ t ≡ 0) ↔ DividesAll (two_to t) (take (i + 1) v))
joined_more v i bits more d l f g t = (
  (λ e. let b = or_over bits more t e in divides_more (two_to t) v i d l ((f t).0 b.0) ((g t).0 b.1)),
  (λ h. let b = divides_less (two_to t) v i d l h in over_or bits more t ((f t).1 b.0) ((g t).1 b.1)),
)
