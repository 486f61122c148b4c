-- The real number of a sum of masses, and of no mass.
use Rattle.std.proofs.Common.{◌≡◌, ℕ, ℤ, pos, ◌+ℤ◌, sym, ap, ◌∙◌}
use Rattle.qt_root2.specs.declared.mass.Mass.{Mass}
use Rattle.qt_root2.specs.Masses.{real_of_mass}
use Rattle.qt_root2.specs.Real.{least, plus_real, zero_real}
use Rattle.qt_root2.proofs.Reals.{IsLeast, least_is_least, plus_real-least, least-zero, least_zero_only}

pub real_of_mass-plus : (x y z : Mass) → z.a ≡ x.a +ℤ y.a → z.b ≡ x.b +ℤ y.b → real_of_mass z ≡ plus_real (real_of_mass x) (real_of_mass y)
real_of_mass-plus x y z e f =
    sum_of 96 x.a x.b y.a y.b z.a z.b e f
  where
    sum_of : (k : ℕ) (a b c d s t : ℤ) → s ≡ a +ℤ c → t ≡ b +ℤ d → least k s t ≡ plus_real (least k a b) (least k c d)
    sum_of k a b c d s t e f = ap (λ u. least k u t) e ∙ ap (least k (a +ℤ c)) f ∙ sym (plus_real-least k a b c d)

pub real_of_mass-zero : (x : Mass) → x.a ≡ pos 0 → x.b ≡ pos 0 → real_of_mass x ≡ zero_real
real_of_mass-zero x e f = zero_of 96 x.a x.b e f
  where
    zero_of : (k : ℕ) (a b : ℤ) → a ≡ pos 0 → b ≡ pos 0 → least k a b ≡ zero_real
    zero_of k a b e f = ap (λ u. least k u b) e ∙ ap (least k (pos 0)) f ∙ least-zero k

pub real_of_mass_zero_only : (x : Mass) → real_of_mass x ≡ zero_real → (x.a ≡ pos 0) × (x.b ≡ pos 0)
real_of_mass_zero_only x h = least_zero_only 96 x.a x.b h

pub real_of_mass_is_least : (x : Mass) → IsLeast (real_of_mass x)
real_of_mass_is_least x = least_is_least 96 x.a x.b
