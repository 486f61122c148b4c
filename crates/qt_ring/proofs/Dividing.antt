-- Products with √2, 1 − ω, ε and its inverse by coefficients, and by parities which numbers √2, 1 − ω and 2 divide.
use Rattle.std.proofs.Common.{◌≡◌, ◌/◌, sym, ap, ◌∙◌, arith, ℤ, pos, negsuc, ◌+ℤ◌, ◌-ℤ◌}
use lib.IntN.{+ℤ_comm}
use Rattle.std.proofs.lemmas.Int.{ints}
use Rattle.qt_ring.specs.declared.omega.Omega.{Omega}
use Rattle.qt_ring.specs.Ring.{one, the_omega, root_two, one_minus_omega, epsilon, epsilon_inverse, plus, minus, times, two_to}
use Rattle.qt_ring.specs.Division.{Divides, parity, SameParity, IsEven}
use Rattle.qt_ring.proofs.RingLaws.{same}

-- ---- products by coefficients
pub times_root_two : (y : Omega) → times root_two y ≡ record { c0 = y.c1 -ℤ y.c3; c1 = y.c0 +ℤ y.c2; c2 = y.c1 +ℤ y.c3; c3 = y.c2 -ℤ y.c0 }
unfolding times
times_root_two y = same _ _ (omega (arith, ints)) (omega (arith, ints)) (omega (arith, ints)) (omega (arith, ints))

pub times_one_minus_omega : (y : Omega) → times one_minus_omega y ≡ record { c0 = y.c0 +ℤ y.c3; c1 = y.c1 -ℤ y.c0; c2 = y.c2 -ℤ y.c1; c3 = y.c3 -ℤ y.c2 }
unfolding times one_minus_omega plus minus one the_omega
times_one_minus_omega y = same _ _ (omega (arith, ints)) (omega (arith, ints)) (omega (arith, ints)) (omega (arith, ints))

pub times_epsilon_is : (x : Omega) → times epsilon x ≡ record { c0 = x.c0 +ℤ x.c1 -ℤ x.c3; c1 = x.c1 +ℤ x.c0 +ℤ x.c2; c2 = x.c2 +ℤ x.c1 +ℤ x.c3; c3 = x.c3 +ℤ x.c2 -ℤ x.c0 }
unfolding times epsilon plus one
times_epsilon_is x = same _ _ (omega (arith, ints)) (omega (arith, ints)) (omega (arith, ints)) (omega (arith, ints))

pub times_epsilon_inverse_is : (x : Omega) → times epsilon_inverse x ≡ record { c0 = x.c1 -ℤ x.c3 -ℤ x.c0; c1 = x.c0 +ℤ x.c2 -ℤ x.c1; c2 = x.c1 +ℤ x.c3 -ℤ x.c2; c3 = x.c2 -ℤ x.c0 -ℤ x.c3 }
unfolding times epsilon_inverse plus minus one
times_epsilon_inverse_is x = same _ _ (omega (arith, ints)) (omega (arith, ints)) (omega (arith, ints)) (omega (arith, ints))

pub times_two : (y : Omega) → times (two_to 1) y ≡ plus y y
unfolding times plus one
times_two y = same _ _ (omega (arith, ints)) (omega (arith, ints)) (omega (arith, ints)) (omega (arith, ints))

-- ---- halves of whole numbers
pub half_of_even : (z : ℤ) → parity z ≡ 0 → (h : ℤ) × (z ≡ h +ℤ h)
half_of_even (pos n) e = (pos (n / 2), omega (arith, ints))
half_of_even (negsuc n) e = (negsuc (n / 2), omega (arith, ints))

pub parity_twice : (h : ℤ) → parity (h +ℤ h) ≡ 0
parity_twice h = omega (arith, ints)

even_sum : (a b : ℤ) → SameParity a b → parity (a +ℤ b) ≡ 0
even_sum a b e = omega (arith, ints)

sum_and_difference : (a b c d : ℤ) → a ≡ c +ℤ d → b ≡ c -ℤ d → SameParity a b
sum_and_difference a b c d e f = omega (arith, ints)

-- ---- √2
-- the quotient by the halves of two sums
root_two_quotient : (x : Omega) (g h : ℤ) → x.c0 +ℤ x.c2 ≡ g +ℤ g → x.c1 +ℤ x.c3 ≡ h +ℤ h → times root_two (record { c0 = h -ℤ x.c3; c1 = g; c2 = h; c3 = g -ℤ x.c0 }) ≡ x
root_two_quotient x g h e f = times_root_two _ ∙ same _ _ (omega (arith, ints)) (omega (arith, ints)) (omega (arith, ints)) (omega (arith, ints))

pub root_two_multiple : (x : Omega) → Divides root_two x → SameParity x.c0 x.c2 × SameParity x.c1 x.c3
root_two_multiple x (y, e) =
    let m : _ ≡ x = sym (times_root_two y) ∙ e in (
      sym (sum_and_difference x.c2 x.c0 y.c1 y.c3 (sym (ap (λ (t : Omega). t.c2) m)) (sym (ap (λ (t : Omega). t.c0) m))),
      sum_and_difference x.c1 x.c3 y.c2 y.c0 (sym (ap (λ (t : Omega). t.c1) m) ∙ +ℤ_comm y.c0 y.c2) (sym (ap (λ (t : Omega). t.c3) m)),
    )

pub root_two_divisor : (x : Omega) → SameParity x.c0 x.c2 → SameParity x.c1 x.c3 → Divides root_two x
root_two_divisor x e f =
    let g = half_of_even (x.c0 +ℤ x.c2) (even_sum x.c0 x.c2 e) in
    let h = half_of_even (x.c1 +ℤ x.c3) (even_sum x.c1 x.c3 f) in
    (record { c0 = h.0 -ℤ x.c3; c1 = g.0; c2 = h.0; c3 = g.0 -ℤ x.c0 }, root_two_quotient x g.0 h.0 g.1 h.1)

-- ---- 1 − ω
abbrev pub total : Omega → ℤ
total x = x.c0 +ℤ x.c1 +ℤ x.c2 +ℤ x.c3

-- the quotient by half of the sum
pub one_minus_omega_quotient : (x : Omega) (h : ℤ) → total x ≡ h +ℤ h → times one_minus_omega (record { c0 = h -ℤ x.c3 -ℤ x.c2 -ℤ x.c1; c1 = h -ℤ x.c3 -ℤ x.c2; c2 = h -ℤ x.c3; c3 = h }) ≡ x
one_minus_omega_quotient x h e = times_one_minus_omega _ ∙ same _ _ (omega (arith, ints)) (omega (arith, ints)) (omega (arith, ints)) (omega (arith, ints))

telescoped : (a b c d e f g h : ℤ) → a ≡ e +ℤ h → b ≡ f -ℤ e → c ≡ g -ℤ f → d ≡ h -ℤ g → parity (a +ℤ b +ℤ c +ℤ d) ≡ 0
telescoped a b c d e f g h p q r s =
    let t : a +ℤ b +ℤ c +ℤ d ≡ h +ℤ h = omega (arith, ints) in
    ap parity t ∙ parity_twice h

pub one_minus_omega_multiple : (x : Omega) → Divides one_minus_omega x → parity (total x) ≡ 0
one_minus_omega_multiple x (y, e) =
    let m : _ ≡ x = sym (times_one_minus_omega y) ∙ e in
    telescoped x.c0 x.c1 x.c2 x.c3 y.c0 y.c1 y.c2 y.c3 (sym (ap (λ (t : Omega). t.c0) m)) (sym (ap (λ (t : Omega). t.c1) m)) (sym (ap (λ (t : Omega). t.c2) m)) (sym (ap (λ (t : Omega). t.c3) m))

pub one_minus_omega_divisor : (x : Omega) → parity (total x) ≡ 0 → Divides one_minus_omega x
one_minus_omega_divisor x e =
    let h = half_of_even (total x) e in
    (record { c0 = h.0 -ℤ x.c3 -ℤ x.c2 -ℤ x.c1; c1 = h.0 -ℤ x.c3 -ℤ x.c2; c2 = h.0 -ℤ x.c3; c3 = h.0 }, one_minus_omega_quotient x h.0 h.1)

-- ---- 2
twice_even : (a h : ℤ) → h +ℤ h ≡ a → parity a ≡ 0
twice_even a h e = omega (arith, ints)

pub two_multiple : (x : Omega) → Divides (two_to 1) x → IsEven x
unfolding plus
two_multiple x (y, e) =
    let m : plus y y ≡ x = sym (times_two y) ∙ e in
    record {
      c0_even = twice_even x.c0 y.c0 (ap (λ (t : Omega). t.c0) m);
      c1_even = twice_even x.c1 y.c1 (ap (λ (t : Omega). t.c1) m);
      c2_even = twice_even x.c2 y.c2 (ap (λ (t : Omega). t.c2) m);
      c3_even = twice_even x.c3 y.c3 (ap (λ (t : Omega). t.c3) m);
    }

pub two_divisor : (x : Omega) → IsEven x → Divides (two_to 1) x
unfolding plus
two_divisor x e =
    let f = half_of_even x.c0 e.c0_even in
    let g = half_of_even x.c1 e.c1_even in
    let h = half_of_even x.c2 e.c2_even in
    let i = half_of_even x.c3 e.c3_even in
    let y : Omega = record { c0 = f.0; c1 = g.0; c2 = h.0; c3 = i.0 } in
    (y, times_two y ∙ same _ _ (sym f.1) (sym g.1) (sym h.1) (sym i.1))

-- ---- as the code answers
pub one_minus_omega_halves : (x y : Omega) → total x ≡ y.c3 +ℤ y.c3 → y.c2 ≡ y.c3 -ℤ x.c3 → y.c1 ≡ y.c3 -ℤ x.c3 -ℤ x.c2 → y.c0 ≡ y.c3 -ℤ x.c3 -ℤ x.c2 -ℤ x.c1 → times one_minus_omega y ≡ x
one_minus_omega_halves x y h a b c = times_one_minus_omega y ∙ same _ x (omega (arith, ints)) (omega (arith, ints)) (omega (arith, ints)) (omega (arith, ints))

pub root_two_halves : (x y : Omega) → x.c1 -ℤ x.c3 ≡ y.c0 +ℤ y.c0 → x.c0 +ℤ x.c2 ≡ y.c1 +ℤ y.c1 → x.c1 +ℤ x.c3 ≡ y.c2 +ℤ y.c2 → x.c2 -ℤ x.c0 ≡ y.c3 +ℤ y.c3 → times root_two y ≡ x
root_two_halves x y a b c d = times_root_two y ∙ same _ x (omega (arith, ints)) (omega (arith, ints)) (omega (arith, ints)) (omega (arith, ints))

pub no_root_two : (x : Omega) → (SameParity x.c0 x.c2 × SameParity x.c1 x.c3 → ⊥) → Divides root_two x → ⊥
no_root_two x h d = h (root_two_multiple x d)

pub epsilon_times : (x r : Omega) → r.c0 ≡ x.c0 +ℤ x.c1 -ℤ x.c3 → r.c1 ≡ x.c1 +ℤ x.c0 +ℤ x.c2 → r.c2 ≡ x.c2 +ℤ x.c1 +ℤ x.c3 → r.c3 ≡ x.c3 +ℤ x.c2 -ℤ x.c0 → r ≡ times epsilon x
epsilon_times x r a b c d = same r _ a b c d ∙ sym (times_epsilon_is x)

pub epsilon_inverse_times : (x r : Omega) → r.c0 ≡ x.c1 -ℤ x.c3 -ℤ x.c0 → r.c1 ≡ x.c0 +ℤ x.c2 -ℤ x.c1 → r.c2 ≡ x.c1 +ℤ x.c3 -ℤ x.c2 → r.c3 ≡ x.c2 -ℤ x.c0 -ℤ x.c3 → r ≡ times epsilon_inverse x
epsilon_inverse_times x r a b c d = same r _ a b c d ∙ sym (times_epsilon_inverse_is x)
