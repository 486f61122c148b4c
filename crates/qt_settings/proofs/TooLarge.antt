-- Digits behind a number that is too large make no smaller one, and few digits make none that is too large.
use Rattle.std.proofs.Common.{◌≡◌, ℕ, suc, ◌+◌, ◌-◌, ◌*◌, ◌^◌, ◌<◌, ◌≤◌, nat_eq, nat_le, false, if◌then◌else◌, List, [], ◌∷◌, length, Option, Some, None, refl, sym, ap, ◌∙◌, inl, inr, arith}
use Rattle.std.proofs.lemmas.Bool.{le-ltb, lt-leb, lt-ltb}
use Rattle.std.proofs.lemmas.Bool.Decides.{leb_tells}
use Rattle.std.proofs.Math.Nat.{mul-le-mul_left}
use Rattle.std.proofs.Math.Pow.{pow_mono}
use Rattle.qt_typing.specs.Inputs.{below, digit_below, digits_from, digits_of, more_digits, opposite}

pub below_some : (bound n : ℕ) → n < bound → below bound (Some n) ≡ Some n
below_some bound n h = ap (λ t. if t then Some n else None) (lt-ltb n bound h)

pub below_none : (bound n : ℕ) → bound ≤ n → below bound (Some n) ≡ None
below_none bound n h = ap (λ t. if t then Some n else None) (le-ltb n bound h)

-- no digit is left
pub ended : (base n : ℕ) (text : List ℕ) → n < 2 ^ 64 → length text < 1 → below (2 ^ 64) (digits_from base (Some n) text) ≡ Some n
ended base n [] h none = below_some (2 ^ 64) n h
ended base n (byte ∷ text) h none = absurd (omega (arith, none))

pub nothing_from : (base : ℕ) (text : List ℕ) → digits_from base None text ≡ None
nothing_from base [] = refl
nothing_from base (byte ∷ text) = refl

module _ (base bound : ℕ) (some : 1 ≤ base) where
  with_digit : (n : ℕ) (text : List ℕ) → bound ≤ n → ((m : ℕ) → bound ≤ m → below bound (digits_from base (Some m) text) ≡ None)
      → (d : Option ℕ) → below bound (digits_from base (more_digits base n d) text) ≡ None
  with_digit n text h again None = ap (below bound) (nothing_from base text)
  with_digit n text h again (Some d) = again (n * base + d) (omega (arith, h, mul-le-mul_left n some))

  pub too_large : (n : ℕ) → bound ≤ n → (text : List ℕ) → below bound (digits_from base (Some n) text) ≡ None
  too_large n h [] = below_none bound n h
  too_large n h (byte ∷ text) = with_digit n text h (λ m k. too_large m k text) (digit_below base byte)

  -- so a digit that makes the number too large is the end
  pub no_more : (n byte : ℕ) (text : List ℕ) → below bound (more_digits base n (digit_below base byte)) ≡ None
      → below bound (digits_from base (Some n) (byte ∷ text)) ≡ None
  no_more n byte text = go (more_digits base n (digit_below base byte))
    where
      go : (m : Option ℕ) → below bound m ≡ None → below bound (digits_from base m text) ≡ None
      go None h = ap (below bound) (nothing_from base text)
      go (Some m) h = elim (leb_tells bound m) [
        | inl k ↦ too_large m k.1 text
        | inr k ↦ absurd (cc (below_some bound m (omega (arith, k.1)), h))
      ]

-- ---- a lesser bound

pub below_less : (width : ℕ) → width ≤ 64 → (m : Option ℕ) → below (2 ^ width) (below (2 ^ 64) m) ≡ below (2 ^ width) m
below_less width few None = refl
below_less width few (Some n) = elim (leb_tells (2 ^ 64) n) [
  | inl k ↦ ap (below (2 ^ width)) (below_none (2 ^ 64) n k.1) ∙ sym (below_none (2 ^ width) n (omega (arith, k.1, pow_mono few)))
  | inr k ↦ ap (below (2 ^ width)) (below_some (2 ^ 64) n (omega (arith, k.1)))
]

pub opposite_less : (width : ℕ) → width ≤ 64 → (m : Option ℕ) → opposite width (below (2 ^ 64) m) ≡ opposite width m
opposite_less width few None = refl
opposite_less width few (Some n) = elim (leb_tells (2 ^ 64) n) [
  | inl k ↦ ap (opposite width) (below_none (2 ^ 64) n k.1) ∙ sym (too_far n (lt-leb n (2 ^ (width - 1)) (omega (arith, k.1, pow_mono (less width few)))))
  | inr k ↦ ap (opposite width) (below_some (2 ^ 64) n (omega (arith, k.1)))
]
  where
    less : (width : ℕ) → width ≤ 64 → width - 1 ≤ 63
    less width few = omega (arith, few)

    too_far : (n : ℕ) → nat_le n (2 ^ (width - 1)) ≡ false → opposite width (Some n) ≡ None
    too_far n h = ap (λ t. if t then Some (if nat_eq n 0 then 0 else 2 ^ width - n) else None) h

-- ---- few digits

digit_small : (byte d : ℕ) → digit_below 2 byte ≡ Some d → d < 2
digit_small byte d = grind arith

pub few_from : (k n : ℕ) (text : List ℕ) → n < 2 ^ k → k + length text ≤ 64 → below (2 ^ 64) (digits_from 2 (Some n) text) ≡ digits_from 2 (Some n) text
few_from k n [] h few = below_some (2 ^ 64) n (omega (arith, h, pow_mono {i = k} {j = 64} (omega (arith, few))))
few_from k n (byte ∷ text) h few =
    behind (digit_below 2 byte) (λ d e. digit_small byte d e) (λ m l. few_from (suc k) m text l (omega (arith, few)))
  where
    behind : (d : Option ℕ) → ((e : ℕ) → d ≡ Some e → e < 2) → ((m : ℕ) → m < 2 ^ suc k → below (2 ^ 64) (digits_from 2 (Some m) text) ≡ digits_from 2 (Some m) text)
        → below (2 ^ 64) (digits_from 2 (more_digits 2 n d) text) ≡ digits_from 2 (more_digits 2 n d) text
    behind None small again = ap (below (2 ^ 64)) (nothing_from 2 text) ∙ sym (nothing_from 2 text)
    behind (Some d) small again = again (n * 2 + d) (omega (arith, h, small d refl))

pub few_digits : (text : List ℕ) → length text ≤ 64 → below (2 ^ 64) (digits_of 2 text) ≡ digits_of 2 text
few_digits [] few = refl
few_digits (byte ∷ text) few = few_from 0 0 (byte ∷ text) (omega arith) (omega (arith, few))
