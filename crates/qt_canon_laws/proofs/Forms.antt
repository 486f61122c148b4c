-- A list has one canonical form at most, and one way to it; its multiples by 2, √2, 1 − ω, ε and ω have the same.
use Rattle.std.proofs.Common.{◌≡◌, ℕ, zero, suc, ◌+◌, ◌<◌, ◌≤◌, Bool, true, false, List, refl, sym, ap, subst, ◌∙◌, arith, ℤ, pos, negsuc}
use Rattle.std.specs.Int.RustNames.{unsigned_abs}
use Rattle.std.proofs.lemmas.Int.{ints}
use Rattle.qt_ring.specs.declared.omega.Omega.{Omega}
use Rattle.qt_ring.specs.Ring.{nil, one, plus, minus, times, root, two_to, the_omega, root_two, one_minus_omega, epsilon, epsilon_inverse}
use Rattle.qt_ring.specs.Multiples.{scaled, DividesAll}
use Rattle.qt_ring.proofs.RingLaws.{times_comm, times-one, one-times}
use Rattle.qt_ring.proofs.Units.{cancelled}
use Rattle.qt_ring.proofs.Dividing.{times_two}
use Rattle.qt_canon_laws.specs.Powers.{power, once, epsilon_power}
use Rattle.qt_canon_laws.specs.FirstEntry.{first_entry, InWindow}
use Rattle.qt_canon_laws.specs.Canonical.{TakesTwos, TakesOnce, TakesUnits, Taken, IsCanonical, factor_of}
use Rattle.qt_canon_laws.proofs.Lists.{scaled_scaled, scaled_one, scaled_cancel, divides_scaled}
use Rattle.qt_canon_laws.proofs.FirstEntries.{first_entry-scaled}
use Rattle.qt_canon_laws.proofs.Smooth.{Smooth, smooth-times, smooth-factor_of, root_two_squared, root_not_nil, root_two_not_nil, omega_not_nil, one_minus_omega_not_nil, two_to_not_nil, epsilon_power_not_nil}
use Rattle.qt_canon_laws.proofs.Epsilons.{shifted, lifted_above_zero}
use Rattle.qt_canon_laws.proofs.Window.{window_root, window_not_nil}
use Rattle.qt_canon_laws.proofs.Cores.{IsCore, cores_same, windows_apart, epsilon_off}

-- ---- 1 − ω doesn't divide the form: (1 − ω)² is √2 times a unit
square_unit : Omega
square_unit = times (root 5) epsilon_inverse

square_of_one_minus_omega : times one_minus_omega one_minus_omega ≡ times root_two square_unit
unfolding square_unit times plus minus one the_omega epsilon_inverse one_minus_omega
square_of_one_minus_omega = refl

-- what is divided twice by 1 − ω is divided by √2
by_square : (v w x : List Omega) → scaled one_minus_omega w ≡ v → scaled one_minus_omega x ≡ w → scaled root_two (scaled square_unit x) ≡ v
by_square v w x e f = scaled_scaled root_two square_unit x ∙ ap (λ t. scaled t x) (sym square_of_one_minus_omega) ∙ sym (scaled_scaled one_minus_omega one_minus_omega x) ∙ ap (scaled one_minus_omega) f ∙ e

one_minus_omega_gone : (r s : Bool) (a b c : List Omega) → TakesOnce root_two r a b → TakesOnce one_minus_omega s b c → (DividesAll (two_to 1) a → ⊥) → DividesAll one_minus_omega c → ⊥
one_minus_omega_gone r false a b c e f h d = f.1 (let P : List Omega → Type 0 = λ l. DividesAll one_minus_omega l in subst P f.0 d)
one_minus_omega_gone true true a b c e f h (x, g) = h (scaled square_unit x, ap (λ t. scaled t (scaled square_unit x)) (sym root_two_squared) ∙ sym (scaled_scaled root_two root_two (scaled square_unit x)) ∙ ap (scaled root_two) (by_square b c x f g) ∙ e)
one_minus_omega_gone false true a b c e f h (x, g) = e.1 (scaled square_unit x, by_square b c x f g ∙ e.0)

two_to-suc : (t : ℕ) → times (two_to t) (two_to 1) ≡ two_to (suc t)
two_to-suc t = times_comm (two_to t) (two_to 1) ∙ times_two (two_to t)

no_more_twos : (t : ℕ) (v w : List Omega) → TakesTwos t v w → DividesAll (two_to 1) w → ⊥
no_more_twos t v w o (x, e) =
    let l : suc t ≤ t = o.greatest (suc t) (x, ap (λ r. scaled r x) (sym (two_to-suc t)) ∙ sym (scaled_scaled (two_to t) (two_to 1) x) ∙ ap (scaled (two_to t)) e ∙ o.left) in
    absurd (omega arith)

pub canonical_core : (v u : List Omega) (k : Taken) → IsCanonical v u k → IsCore u
canonical_core v u k c =
    let P : List Omega → Type 0 = λ l. DividesAll one_minus_omega l in record {
      odd = λ d. one_minus_omega_gone k.has_root_two k.has_one_minus_omega c.after_twos c.after_root_two c.after_one_minus_omega c.takes_root_two c.takes_one_minus_omega (no_more_twos k.twos v c.after_twos c.takes_twos)
          (subst P c.takes_units.left (divides_scaled one_minus_omega (epsilon_power k.units) c.after_units
          (subst P c.takes_turns.left (divides_scaled one_minus_omega (root k.turns) u d))));
      window = window_root k.turns (first_entry u) (first_entry c.after_units) (ap first_entry (sym c.takes_turns.left) ∙ first_entry-scaled (root k.turns) u (root_not_nil k.turns)) c.takes_units.window;
      greatest = c.takes_turns.greatest;
    }

-- ---- the list is the form times the factor
once_left : (d : Omega) (b : Bool) (v w : List Omega) → TakesOnce d b v w → scaled (once d b) w ≡ v
once_left d true v w e = e
once_left d false v w e = scaled_one w ∙ e.0

pub canonical_product : (v u : List Omega) (k : Taken) → IsCanonical v u k → scaled (factor_of k) u ≡ v
canonical_product v u k c =
    sym (scaled_scaled (two_to k.twos) _ u)
    ∙ ap (scaled (two_to k.twos)) (
    sym (scaled_scaled (once root_two k.has_root_two) _ u)
    ∙ ap (scaled (once root_two k.has_root_two)) (
    sym (scaled_scaled (once one_minus_omega k.has_one_minus_omega) _ u)
    ∙ ap (scaled (once one_minus_omega k.has_one_minus_omega)) (
    sym (scaled_scaled (epsilon_power k.units) (root k.turns) u)
    ∙ ap (scaled (epsilon_power k.units)) c.takes_turns.left
    ∙ c.takes_units.left)
    ∙ once_left one_minus_omega k.has_one_minus_omega c.after_root_two c.after_one_minus_omega c.takes_one_minus_omega)
    ∙ once_left root_two k.has_root_two c.after_twos c.after_root_two c.takes_root_two)
    ∙ c.takes_twos.left

-- ---- one form, also of a multiple
pub multiples_same : (d : Omega) (v u w : List Omega) (k l : Taken) → Smooth d → IsCanonical v u k → IsCanonical (scaled d v) w l → u ≡ w
multiples_same d v u w k l s c e =
    cores_same (times d (factor_of k)) (factor_of l) u w (smooth-times d (factor_of k) s (smooth-factor_of k)) (smooth-factor_of l) (canonical_core v u k c) (canonical_core (scaled d v) w l e)
    (sym (scaled_scaled d (factor_of k) u) ∙ ap (scaled d) (canonical_product v u k c) ∙ sym (canonical_product (scaled d v) w l e))

pub form_same : (v u w : List Omega) (k l : Taken) → IsCanonical v u k → IsCanonical v w l → u ≡ w
form_same v u w k l c e = cores_same (factor_of k) (factor_of l) u w (smooth-factor_of k) (smooth-factor_of l) (canonical_core v u k c) (canonical_core v w l e) (canonical_product v u k c ∙ sym (canonical_product v w l e))

-- ---- one way to it, step by step
twos_same : (s t : ℕ) (v a b : List Omega) → TakesTwos s v a → TakesTwos t v b → s ≡ t
twos_same s t v a b c d =
    let p : t ≤ s = c.greatest t (b, d.left) in
    let q : s ≤ t = d.greatest s (a, c.left) in
    omega arith

once_same : (d : Omega) (r s : Bool) (v w a b : List Omega) → (d ≡ nil → ⊥) → v ≡ w → TakesOnce d r v a → TakesOnce d s w b → (r ≡ s) × (a ≡ b)
once_same d true true v w a b h g e f = (refl, scaled_cancel d a b h (e ∙ g ∙ sym f))
once_same d false false v w a b h g e f = (refl, e.0 ∙ g ∙ sym f.0)
once_same d true false v w a b h g e f = absurd (f.1 (a, e ∙ g))
once_same d false true v w a b h g e f = absurd (e.1 (b, f ∙ sym g))

powers_same : (a b : ℕ) (u w : List Omega) → InWindow (first_entry u) → InWindow (first_entry w) → scaled (times (root 0) (power epsilon a)) u ≡ scaled (times (root 0) (power epsilon b)) w → a ≡ b
powers_same zero zero u w c d e = refl
powers_same zero (suc b) u w c d e = absurd (windows_apart 0 0 b u w c d (ap (λ t. scaled t u) (sym (times-one one)) ∙ e))
powers_same (suc a) zero u w c d e = absurd (windows_apart 0 0 a w u d c (ap (λ t. scaled t w) (sym (times-one one)) ∙ sym e))
powers_same (suc a) (suc b) u w c d e = ap suc (powers_same a b u w c d (epsilon_off 0 0 a b u w e))

units_same : (l m : ℤ) (v w a b : List Omega) → v ≡ w → TakesUnits l v a → TakesUnits m w b → l ≡ m
units_same l m v w a b e c d =
    let n : ℕ = unsigned_abs l + unsigned_abs m in
    let p = lifted_above_zero n l (omega arith) in
    let q = lifted_above_zero n m (omega arith) in
    let f : scaled (power epsilon p.0) a ≡ scaled (power epsilon q.0) b =
    ap (λ t. scaled t a) (sym (shifted n l p.0 p.1)) ∙ sym (scaled_scaled (power epsilon n) (epsilon_power l) a) ∙ ap (scaled (power epsilon n)) (c.left ∙ e ∙ sym d.left)
    ∙ scaled_scaled (power epsilon n) (epsilon_power m) b ∙ ap (λ t. scaled t b) (shifted n m q.0 q.1) in
    let g : p.0 ≡ q.0 = powers_same p.0 q.0 a b c.window d.window (ap (λ t. scaled t a) (one-times _) ∙ f ∙ ap (λ t. scaled t b) (sym (one-times _))) in
    let x = p.1 in
    let y = q.1 in
    omega (arith, ints)

-- the eight powers of ω are different
root_one : (n : ℕ) → n < 8 → root n ≡ one → n ≡ 0
unfolding times one the_omega
root_one zero h e = refl
root_one (suc zero) h e = let z : pos 0 ≡ pos 1 = ap (λ (t : Omega). t.c0) e in absurd (cc)
root_one (suc (suc zero)) h e = let z : pos 0 ≡ pos 1 = ap (λ (t : Omega). t.c0) e in absurd (cc)
root_one (suc (suc (suc zero))) h e = let z : pos 0 ≡ pos 1 = ap (λ (t : Omega). t.c0) e in absurd (cc)
root_one (suc (suc (suc (suc zero)))) h e = let z : negsuc 0 ≡ pos 1 = ap (λ (t : Omega). t.c0) e in absurd (cc)
root_one (suc (suc (suc (suc (suc zero))))) h e = let z : pos 0 ≡ pos 1 = ap (λ (t : Omega). t.c0) e in absurd (cc)
root_one (suc (suc (suc (suc (suc (suc zero)))))) h e = let z : pos 0 ≡ pos 1 = ap (λ (t : Omega). t.c0) e in absurd (cc)
root_one (suc (suc (suc (suc (suc (suc (suc zero))))))) h e = let z : pos 0 ≡ pos 1 = ap (λ (t : Omega). t.c0) e in absurd (cc)
root_one (suc (suc (suc (suc (suc (suc (suc (suc n)))))))) h e = absurd (omega arith)

roots_same : (i j : ℕ) → i < 8 → j < 8 → root i ≡ root j → i ≡ j
roots_same zero j h k e = sym (root_one j k (sym e))
roots_same (suc i) zero h k e = root_one (suc i) h e
roots_same (suc i) (suc j) h k e = ap suc (roots_same i j (omega arith) (omega arith) (cancelled the_omega (root i) (root j) omega_not_nil e))

abbrev made : ℕ → Bool → Bool → ℤ → ℕ → Taken
made t r s m j = record { twos = t; has_root_two = r; has_one_minus_omega = s; units = m; turns = j }

all_same : (k l : Taken) → k.twos ≡ l.twos → k.has_root_two ≡ l.has_root_two → k.has_one_minus_omega ≡ l.has_one_minus_omega → k.units ≡ l.units → k.turns ≡ l.turns → k ≡ l
all_same k l a b c d e =
    ap (λ t. made t k.has_root_two k.has_one_minus_omega k.units k.turns) a
    ∙ ap (λ t. made l.twos t k.has_one_minus_omega k.units k.turns) b
    ∙ ap (λ t. made l.twos l.has_root_two t k.units k.turns) c
    ∙ ap (λ t. made l.twos l.has_root_two l.has_one_minus_omega t k.turns) d
    ∙ ap (λ t. made l.twos l.has_root_two l.has_one_minus_omega l.units t) e

pub taken_same : (v u w : List Omega) (k l : Taken) → IsCanonical v u k → IsCanonical v w l → k ≡ l
taken_same v u w k l c d =
    let a : k.twos ≡ l.twos = twos_same k.twos l.twos v c.after_twos d.after_twos c.takes_twos d.takes_twos in
    let f : c.after_twos ≡ d.after_twos = scaled_cancel (two_to k.twos) _ _ (two_to_not_nil k.twos) (c.takes_twos.left ∙ sym d.takes_twos.left ∙ ap (λ t. scaled (two_to t) d.after_twos) (sym a)) in
    let g = once_same root_two k.has_root_two l.has_root_two c.after_twos d.after_twos c.after_root_two d.after_root_two root_two_not_nil f c.takes_root_two d.takes_root_two in
    let h = once_same one_minus_omega k.has_one_minus_omega l.has_one_minus_omega c.after_root_two d.after_root_two c.after_one_minus_omega d.after_one_minus_omega one_minus_omega_not_nil g.1 c.takes_one_minus_omega d.takes_one_minus_omega in
    let m : k.units ≡ l.units = units_same k.units l.units c.after_one_minus_omega d.after_one_minus_omega c.after_units d.after_units h.1 c.takes_units d.takes_units in
    let n : c.after_units ≡ d.after_units = scaled_cancel (epsilon_power k.units) _ _ (epsilon_power_not_nil k.units) (c.takes_units.left ∙ h.1 ∙ sym d.takes_units.left ∙ ap (λ t. scaled (epsilon_power t) d.after_units) (sym m)) in
    let x : Omega = first_entry u in
    let core : IsCore u = canonical_core v u k c in
    let same : u ≡ w = form_same v u w k l c d in
    let e : scaled (root k.turns) u ≡ scaled (root l.turns) u = c.takes_turns.left ∙ n ∙ sym d.takes_turns.left ∙ ap (scaled (root l.turns)) (sym same) in
    let y : times (root k.turns) x ≡ times (root l.turns) x = sym (first_entry-scaled (root k.turns) u (root_not_nil k.turns)) ∙ ap first_entry e ∙ first_entry-scaled (root l.turns) u (root_not_nil l.turns) in
    let r : root k.turns ≡ root l.turns = cancelled x _ _ (window_not_nil x core.window) (times_comm x _ ∙ y ∙ times_comm _ x) in
    let j : k.turns ≡ l.turns = roots_same k.turns l.turns c.takes_turns.few d.takes_turns.few r in
    all_same k l a g.0 h.0 m j
