-- Divisors in a row, of one number.
use Rattle.std.proofs.Common.{◌≡◌, ℕ, Bool, true, false, List, refl, sym, ap, subst, ◌∙◌}
use Rattle.std.specs.Prelude.{All}
use Rattle.qt_ring.specs.declared.omega.Omega.{Omega}
use Rattle.qt_ring.specs.Ring.{nil, times, two_to, root_two, one_minus_omega}
use Rattle.qt_ring.specs.Division.{Divides}
use Rattle.qt_ring.specs.Multiples.{DividesAll}
use Rattle.qt_ring.specs.State.{all_nil}
use Rattle.qt_ring.proofs.RingLaws.{times_assoc, times-one, times-nil}
use Rattle.qt_ring.proofs.Units.{cancelled}
use Rattle.qt_canon_laws.specs.FirstEntry.{first_entry}
use Rattle.qt_canon_laws.specs.Powers.{once}
use Rattle.qt_canon_laws.proofs.Lists.{divides_as}
use Rattle.qt_canon_laws.proofs.FirstEntries.{first_entry-scaled, first_entry_place, some_first_entry}
use Rattle.qt_canon_laws.proofs.Smooth.{Smooth, smooth-times, smooth-two_to, smooth-once, smooth-root_two, smooth-one_minus_omega, smooth_not_nil}
use Rattle.qt_canon.specs.EvenDivisors.{even_divisor}

-- ---- none is 0
smooth-even_divisor : (t : ℕ) (r : Bool) → Smooth (even_divisor t r)
smooth-even_divisor t r = smooth-times (two_to t) (once root_two r) (smooth-two_to t) (smooth-once root_two r smooth-root_two)

pub even_divisor_not_nil : (t : ℕ) (r : Bool) → even_divisor t r ≡ nil → ⊥
even_divisor_not_nil t r = smooth_not_nil (even_divisor t r) (smooth-even_divisor t r)

pub divisor_not_nil : (t : ℕ) (r s : Bool) → times (even_divisor t r) (once one_minus_omega s) ≡ nil → ⊥
divisor_not_nil t r s = smooth_not_nil _ (smooth-times (even_divisor t r) (once one_minus_omega s) (smooth-even_divisor t r) (smooth-once one_minus_omega s smooth-one_minus_omega))

-- ---- a number over d·e: over d, and that over e
pub by_first : (d e x : Omega) → Divides (times d e) x → Divides d x
by_first d e x (y, f) = (times e y, sym (times_assoc d e y) ∙ f)

pub by_second : (d e x y : Omega) → (d ≡ nil → ⊥) → times d y ≡ x → Divides (times d e) x → Divides e y
by_second d e x y h f (z, g) = (z, cancelled d (times e z) y h (sym (times_assoc d e z) ∙ g ∙ sym f))

pub by_both : (d e x y : Omega) → times d y ≡ x → Divides e y → Divides (times d e) x
by_both d e x y f (z, g) = (z, times_assoc d e z ∙ ap (times d) g ∙ f)

pub both_quotient : (d e x y z : Omega) → times d y ≡ x → times e z ≡ y → times (times d e) z ≡ x
both_quotient d e x y z f g = times_assoc d e z ∙ ap (times d) g ∙ f

-- ---- e once or not
pub divides_with : (d e x : Omega) (b : Bool) → b ≡ true → Divides (times d (once e b)) x → Divides (times d e) x
divides_with d e x b h = subst (λ (c : Bool). Divides (times d (once e c)) x) h

pub quotient_with : (d e x y : Omega) (b : Bool) → b ≡ true → times (times d e) y ≡ x → times (times d (once e b)) y ≡ x
quotient_with d e x y b h = subst (λ (c : Bool). times (times d (once e c)) y ≡ x) (sym h)

pub quotient_without : (d e x y : Omega) (b : Bool) → b ≡ false → times d y ≡ x → times (times d (once e b)) y ≡ x
quotient_without d e x y b h f = subst (λ (c : Bool). times (times d (once e c)) y ≡ x) (sym h) (ap (λ t. times t y) (times-one d) ∙ f)

-- what is found to divide all entries, once or not
pub all_with : (d e : Omega) (v : List Omega) (b : Bool) → DividesAll d v → (b ≡ true → DividesAll (times d e) v) → DividesAll (times d (once e b)) v
all_with d e v true h k = k refl
all_with d e v false h k = divides_as d (times d _) v (sym (times-one d)) h

-- ---- the first entry other than 0 is one of the entries
pub first_entry_all : (P : Omega → Type 0) (v : List Omega) → all_nil v ≡ false → All P v → P (first_entry v)
first_entry_all P v some h = let f = first_entry_place v (some_first_entry v some) in subst P f.1.1 (h f.0 nil f.1.0)

pub first_entry_divides : (d : Omega) (v : List Omega) → (d ≡ nil → ⊥) → DividesAll d v → Divides d (first_entry v)
first_entry_divides d v some (w, e) = (first_entry w, sym (first_entry-scaled d w some) ∙ ap first_entry e)

pub quotient_some : (d x y : Omega) → (x ≡ nil → ⊥) → times d y ≡ x → y ≡ nil → ⊥
quotient_some d x y some e z = some (sym e ∙ ap (times d) z ∙ times-nil d)
