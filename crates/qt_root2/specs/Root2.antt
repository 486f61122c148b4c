-- Numbers a + b√2 with whole a and b, of which weights and masses are the numerators over 2^96.
use Rattle.std.specs.Prelude.{ℕ, zero, suc, ℤ, pos, ◌+ℤ◌, ◌*ℤ◌, ◌≤ℤ◌}

-- a + b√2
pub record Root2 : Type 0 where
  pub a : ℤ
  pub b : ℤ

abbrev pub times_root2 : Root2 → Root2 → Root2
times_root2 x y = record { a = x.a *ℤ y.a +ℤ pos 2 *ℤ (x.b *ℤ y.b); b = x.a *ℤ y.b +ℤ x.b *ℤ y.a }

abbrev pub one_root2 : Root2
one_root2 = record { a = pos 1; b = pos 0 }

abbrev pub power : Root2 → ℕ → Root2
power x zero = one_root2
power x (suc n) = times_root2 x (power x n)

-- neither a + b√2 nor a − b√2 is below 0, as with every |amplitude|²
abbrev pub IsGood : ℤ → ℤ → Type 0
IsGood a b = (pos 0 ≤ℤ a) × ((pos 2 *ℤ (b *ℤ b)) ≤ℤ (a *ℤ a))
