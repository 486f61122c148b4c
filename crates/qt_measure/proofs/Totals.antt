-- Sums of |entry|² over the beginnings of a list, and how large they are.
use Rattle.std.proofs.Common.{◌≡◌, ℕ, zero, suc, ◌+◌, ◌*◌, ◌^◌, ◌<◌, ◌≤◌, List, [], ◌∷◌, length, take, get_or, sym, ap, ◌∙◌, subst, arith, ℤ, ◌+ℤ◌, ◌-ℤ◌, ◌*ℤ◌, to_z, of_z}
use Rattle.std.specs.Prelude.{unsigned_abs, FitsSigned}
use mir.Syntax.{w128}
use Rattle.std.proofs.lemmas.Int.{ints, unsigned_abs-mul}
use Rattle.std.proofs.lemmas.List.Elements.{All-get_or, All-head, All-tail}
use Rattle.std.proofs.lemmas.Nat.{mul-le}
use Rattle.qt_ring.specs.declared.omega.Omega.{Omega}
use Rattle.qt_ring.specs.declared.TheConstants.{QUBITS}
use Rattle.qt_ring.specs.Ring.{nil, norm_a, norm_b}
use Rattle.qt_ring.specs.State.{total_a, total_b}
use Rattle.qt_vector.specs.States.{IsSmall, AreSmall}

-- ---- one entry more
pub total_a_more : (es : List Omega) (i : ℕ) → i < length es → total_a (take (i + 1) es) ≡ total_a (take i es) +ℤ norm_a (get_or es i nil)
total_a_more [] i h = absurd (omega arith)
total_a_more (e ∷ es) zero h = omega (arith, ints)
total_a_more (e ∷ es) (suc i) h =
    let n : suc i + 1 ≡ suc (i + 1) = omega arith in
    let t : total_a (take (i + 1) es) ≡ total_a (take i es) +ℤ norm_a (get_or es i nil) = total_a_more es i (omega arith) in
    ap (λ k. total_a (take k (e ∷ es))) n ∙ ap (λ z. norm_a e +ℤ z) t ∙ omega (arith, ints)

pub total_b_more : (es : List Omega) (i : ℕ) → i < length es → total_b (take (i + 1) es) ≡ total_b (take i es) +ℤ norm_b (get_or es i nil)
total_b_more [] i h = absurd (omega arith)
total_b_more (e ∷ es) zero h = omega (arith, ints)
total_b_more (e ∷ es) (suc i) h =
    let n : suc i + 1 ≡ suc (i + 1) = omega arith in
    let t : total_b (take (i + 1) es) ≡ total_b (take i es) +ℤ norm_b (get_or es i nil) = total_b_more es i (omega arith) in
    ap (λ k. total_b (take k (e ∷ es))) n ∙ ap (λ z. norm_b e +ℤ z) t ∙ omega (arith, ints)

-- ---- sizes
product_size : (a b : ℤ) → unsigned_abs a ≤ 2 ^ 54 → unsigned_abs b ≤ 2 ^ 54 → unsigned_abs (a *ℤ b) ≤ 2 ^ 108
product_size a b h k =
    let m : unsigned_abs a * unsigned_abs b ≤ 2 ^ 54 * 2 ^ 54 = mul-le (unsigned_abs a) (unsigned_abs b) (2 ^ 54) (2 ^ 54) h k in
    let e : unsigned_abs (a *ℤ b) ≡ unsigned_abs a * unsigned_abs b = unsigned_abs-mul a b in
    omega arith

four_size : (p q r s : ℤ) → unsigned_abs p ≤ 2 ^ 108 → unsigned_abs q ≤ 2 ^ 108 → unsigned_abs r ≤ 2 ^ 108 → unsigned_abs s ≤ 2 ^ 108 → (unsigned_abs (p +ℤ q +ℤ r +ℤ s) ≤ 2 ^ 110) × (unsigned_abs (p +ℤ q +ℤ r -ℤ s) ≤ 2 ^ 110)
four_size p q r s a b c d = (omega (arith, ints), omega (arith, ints))

pub norm_size : (x : Omega) → IsSmall x → (unsigned_abs (norm_a x) ≤ 2 ^ 110) × (unsigned_abs (norm_b x) ≤ 2 ^ 110)
norm_size x w = (
  (four_size (x.c0 *ℤ x.c0) (x.c1 *ℤ x.c1) (x.c2 *ℤ x.c2) (x.c3 *ℤ x.c3) (product_size x.c0 x.c0 w.c0_in w.c0_in) (product_size x.c1 x.c1 w.c1_in w.c1_in) (product_size x.c2 x.c2 w.c2_in w.c2_in) (product_size x.c3 x.c3 w.c3_in w.c3_in)).0,
  (four_size (x.c0 *ℤ x.c1) (x.c1 *ℤ x.c2) (x.c2 *ℤ x.c3) (x.c3 *ℤ x.c0) (product_size x.c0 x.c1 w.c0_in w.c1_in) (product_size x.c1 x.c2 w.c1_in w.c2_in) (product_size x.c2 x.c3 w.c2_in w.c3_in) (product_size x.c3 x.c0 w.c3_in w.c0_in)).1,
)

sum_size : (a b : ℤ) (k m : ℕ) → unsigned_abs a ≤ m → unsigned_abs b ≤ k * m → unsigned_abs (a +ℤ b) ≤ suc k * m
sum_size a b k m h g =
    let e : suc k * m ≡ m + k * m = omega arith in
    let s : unsigned_abs (a +ℤ b) ≤ m + k * m = omega (arith, ints) in
    omega arith

totals_size : (es : List Omega) (k : ℕ) → AreSmall es → (unsigned_abs (total_a (take k es)) ≤ k * 2 ^ 110) × (unsigned_abs (total_b (take k es)) ≤ k * 2 ^ 110)
totals_size [] zero w = (omega arith, omega arith)
totals_size [] (suc k) w = (omega arith, omega arith)
totals_size (e ∷ es) zero w = (omega arith, omega arith)
totals_size (e ∷ es) (suc k) w =
    let n = norm_size e (All-head IsSmall e es w) in
    let t = totals_size es k (All-tail IsSmall e es w) in
    (sum_size (norm_a e) (total_a (take k es)) k (2 ^ 110) n.0 t.0, sum_size (norm_b e) (total_b (take k es)) k (2 ^ 110) n.1 t.1)

pub entry_small : (es : List Omega) (i : ℕ) → i < length es → AreSmall es → IsSmall (get_or es i nil)
entry_small es i h w = All-get_or IsSmall es i nil h w

pub total_size : (es : List Omega) (k : ℕ) → k ≤ 2 ^ QUBITS → AreSmall es → (unsigned_abs (total_a (take k es)) ≤ 2 ^ 126) × (unsigned_abs (total_b (take k es)) ≤ 2 ^ 126)
total_size es k h w =
    let t = totals_size es k w in
    let m : k * 2 ^ 110 ≤ 2 ^ 126 = omega arith in
    (omega (arith, t.0), omega (arith, t.1))

-- ---- sums within 128 bits
abbrev word : ℤ → ℤ
word z = to_z w128 (of_z w128 z)

word_is : (z : ℤ) → unsigned_abs z ≤ 2 ^ 126 → word z ≡ z
word_is z h = omega (arith, ints)

fits : (z : ℤ) → unsigned_abs z ≤ 2 ^ 126 → FitsSigned w128 z
fits z h = omega (arith, ints)

less : (n : ℤ) → unsigned_abs n ≤ 2 ^ 110 → unsigned_abs n ≤ 2 ^ 126
less n h = omega arith

sum_as : (f p s n t : ℤ) → f ≡ s → p ≡ n → t ≡ s +ℤ n → unsigned_abs n ≤ 2 ^ 110 → f +ℤ word p ≡ t
sum_as f p s n t e g u h = ap (λ z. z +ℤ word p) e ∙ ap (λ z. s +ℤ word z) g ∙ ap (λ z. s +ℤ z) (word_is n (less n h)) ∙ sym u

pub sum_fits : (f p s n t : ℤ) → f ≡ s → p ≡ n → t ≡ s +ℤ n → unsigned_abs n ≤ 2 ^ 110 → unsigned_abs t ≤ 2 ^ 126 → FitsSigned w128 (f +ℤ word p)
sum_fits f p s n t e g u h k = subst (FitsSigned w128) (sym (sum_as f p s n t e g u h)) (fits t k)

pub sum_is : (f p s n t : ℤ) → f ≡ s → p ≡ n → t ≡ s +ℤ n → unsigned_abs n ≤ 2 ^ 110 → unsigned_abs t ≤ 2 ^ 126 → word (f +ℤ word p) ≡ t
sum_is f p s n t e g u h k = ap word (sum_as f p s n t e g u h) ∙ word_is t k
