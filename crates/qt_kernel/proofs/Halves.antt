-- Results over powers of two, by halving them step by step.
use Rattle.std.proofs.Common.{◌≡◌, ℕ, suc, ◌+◌, ◌-◌, ◌*◌, ◌<◌, ◌≤◌, Bool, true, false, sym, ap, subst, ◌∙◌, arith, ℤ, ◌+ℤ◌}
use Rattle.std.specs.Int.RustNames.{unsigned_abs}
use Rattle.std.proofs.lemmas.Int.{ints}
use Rattle.qt_integers.proofs.Integers.{double_same}
use Rattle.qt_ring.specs.declared.omega.Omega.{Omega}
use Rattle.qt_ring.specs.declared.TheConstants.{LARGEST}
use Rattle.qt_ring.specs.Ring.{plus, times, two_to}
use Rattle.qt_ring.specs.Division.{Divides, IsEven}
use Rattle.qt_ring.proofs.RingLaws.{same, one-times, times-plus, plus-times}
use Rattle.qt_ring.proofs.Units.{cancelled}
use Rattle.qt_ring.proofs.Dividing.{times_two, two_multiple, two_divisor}
use Rattle.qt_vector.specs.States.{IsSmall}
use Rattle.qt_vector.proofs.Reduced.{two_to_not_nil, times_two_to-plus}
use Rattle.qt_kernel.specs.Gates.{IsFourfold}
use Rattle.qt_kernel.proofs.Words.{word, word_is}

-- ---- one half
double_is : (a h : ℤ) → unsigned_abs a ≤ 4 * unsigned_abs LARGEST → word a ≡ h +ℤ h → word h +ℤ word h ≡ a
double_is a h l e =
    let f : a ≡ h +ℤ h = sym (word_is a l) ∙ e in
    let g : word h ≡ h = word_is h (omega (arith, ints)) in
    ap (λ t. t +ℤ t) g ∙ sym f

pub doubled : (x : Omega) (h0 h1 h2 h3 : ℤ) → IsFourfold x → word x.c0 ≡ h0 +ℤ h0 → word x.c1 ≡ h1 +ℤ h1 → word x.c2 ≡ h2 +ℤ h2 → word x.c3 ≡ h3 +ℤ h3 → plus (record { c0 = word h0; c1 = word h1; c2 = word h2; c3 = word h3 }) (record { c0 = word h0; c1 = word h1; c2 = word h2; c3 = word h3 }) ≡ x
unfolding plus
doubled x h0 h1 h2 h3 w a b c d = same _ x (double_is x.c0 h0 w.c0_in a) (double_is x.c1 h1 w.c1_in b) (double_is x.c2 h2 w.c2_in c) (double_is x.c3 h3 w.c3_in d)

word_size : (h : ℤ) → unsigned_abs h ≤ 4 * unsigned_abs LARGEST → unsigned_abs (word h) ≤ 4 * unsigned_abs LARGEST
word_size h l = omega (arith, ints)

pub half_size : (h0 h1 h2 h3 : ℤ) → unsigned_abs h0 ≤ 4 * unsigned_abs LARGEST → unsigned_abs h1 ≤ 4 * unsigned_abs LARGEST → unsigned_abs h2 ≤ 4 * unsigned_abs LARGEST → unsigned_abs h3 ≤ 4 * unsigned_abs LARGEST → IsFourfold (record { c0 = word h0; c1 = word h1; c2 = word h2; c3 = word h3 })
half_size h0 h1 h2 h3 a b c d = record { c0_in = word_size h0 a; c1_in = word_size h1 b; c2_in = word_size h2 c; c3_in = word_size h3 d }

-- ---- where the halving stands after some steps
pub record Halving (by : ℕ) (x : Omega) (step : ℕ) (rest : Omega) : Type 0 where
  pub value : times (two_to step) rest ≡ x
  pub whole : Divides (two_to (by - step)) rest
  pub size : IsFourfold rest

pub halving_begins : (by : ℕ) (x : Omega) → IsFourfold x → Divides (two_to by) x → Halving by x 0 x
halving_begins by x w d = let z : by ≡ by - 0 = omega arith in record { value = one-times x; whole = subst (λ (n : ℕ). Divides (two_to n) x) z d; size = w }

split_twos : (m : ℕ) (y r : Omega) → times (two_to (suc m)) y ≡ r → plus (times (two_to m) y) (times (two_to m) y) ≡ r
split_twos m y r e = sym (plus-times (two_to m) (two_to m) y) ∙ e

pub halving_even : (by : ℕ) (x : Omega) (step : ℕ) (rest : Omega) → step < by → Halving by x step rest → IsEven rest
halving_even by x step rest l h =
    let z : by - step ≡ suc (by - step - 1) = omega arith in
    let d = subst (λ (n : ℕ). Divides (two_to n) rest) z h.whole in
    two_multiple rest (times (two_to (by - step - 1)) d.0, times_two _ ∙ split_twos (by - step - 1) d.0 rest d.1)

twice_same : (x y : Omega) → plus x x ≡ plus y y → x ≡ y
unfolding plus
twice_same x y e = same x y (double_same _ _ (ap (λ (t : Omega). t.c0) e)) (double_same _ _ (ap (λ (t : Omega). t.c1) e)) (double_same _ _ (ap (λ (t : Omega). t.c2) e)) (double_same _ _ (ap (λ (t : Omega). t.c3) e))

pub halving_on : (by : ℕ) (x : Omega) (step : ℕ) (rest h : Omega) → step < by → plus h h ≡ rest → IsFourfold h → Halving by x step rest → Halving by x (step + 1) h
halving_on by x step rest h l e w r =
    let m : ℕ = by - step - 1 in
    let z : by - step ≡ suc m = omega arith in
    let y : by - (step + 1) ≡ m = omega arith in
    let n : step + 1 ≡ suc step = omega arith in
    let d = subst (λ (n : ℕ). Divides (two_to n) rest) z r.whole in
    let s : times (two_to m) d.0 ≡ h = twice_same _ h (split_twos m d.0 rest d.1 ∙ sym e) in
    record {
      value = ap (λ k. times (two_to k) h) n ∙ plus-times (two_to step) (two_to step) h ∙ sym (times-plus (two_to step) h h) ∙ ap (times (two_to step)) e ∙ r.value;
      whole = subst (λ (n : ℕ). Divides (two_to n) h) (sym y) (d.0, s);
      size = w;
    }

pub halving_ends : (by : ℕ) (x : Omega) (step : ℕ) (rest : Omega) → step ≡ by → Halving by x step rest → times (two_to by) rest ≡ x
halving_ends by x step rest e r = ap (λ k. times (two_to k) rest) (sym e) ∙ r.value

-- ---- what a result over 2^by says of the result
pub even_from : (by : ℕ) (x r : Omega) → times (two_to by) r ≡ x → Divides (two_to (by + 1)) x → IsEven r
even_from by x r e (y, f) = two_multiple r (y, cancelled (two_to by) (times (two_to 1) y) r (two_to_not_nil by) (sym (times_two_to-plus by 1 y) ∙ f ∙ sym e))

pub even_to : (by : ℕ) (x r : Omega) → times (two_to by) r ≡ x → IsEven r → Divides (two_to (by + 1)) x
even_to by x r e v = let d = two_divisor r v in (d.0, times_two_to-plus by 1 d.0 ∙ ap (times (two_to by)) d.1 ∙ e)

pub small_over : (by : ℕ) (x r y : Omega) → times (two_to by) r ≡ x → IsSmall r → times (two_to by) y ≡ x → IsSmall y
small_over by x r y e w f = subst IsSmall (cancelled (two_to by) r y (two_to_not_nil by) (e ∙ sym f)) w

pub false_true : (b : Bool) → b ≡ false → b ≡ true → ⊥
false_true b e f = absurd (cc)
