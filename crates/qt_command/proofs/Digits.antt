-- Few digits write a small number.
use Rattle.std.proofs.lemmas.List.{take_all}
use Rattle.std.proofs.Common.{take, drop, slice_index_or, sym, ◌≡◌, ℕ, suc, ◌+◌, ◌-◌, ◌*◌, ◌^◌, ◌<◌, ◌≤◌, ap, ◌∙◌, arith, nat_le, ◌&&◌, true, false, if◌then◌else◌, List, [], ◌∷◌, length, Option, Some, None, refl}
use Rattle.qt_command.specs.Numbers.{digits_from, is_digit}
use Rattle.std.proofs.Math.Nat.{one-le-pow, pow-le-pow_right, pow-suc}

pub some : (m : ℕ) → 0 < 10 ^ m
some m = one-le-pow m 10 (omega arith)

pub small : (n length : ℕ) → 1 ≤ length → n < 10 ^ (9 - length) → n < 100000000
small n length h k =
    let less : 9 - length ≤ 8 = omega (arith, h) in
    let more : 10 ^ (9 - length) ≤ 10 ^ 8 = pow-le-pow_right (omega arith) less in
    omega (arith, k, more)

pub next : (n digit length : ℕ) → 1 ≤ length → length ≤ 9 → digit ≤ 9 → n < 10 ^ (9 - length) → n * 10 + digit < 10 ^ (9 - (length - 1))
next n digit length h few d k =
    let one_more : 9 - (length - 1) ≡ suc (9 - length) = omega (arith, h, few) in
    let power : 10 ^ (9 - (length - 1)) ≡ 10 ^ (9 - length) * 10 = ap (λ m. 10 ^ m) one_more ∙ pow-suc 10 (9 - length) in
    rw power (omega (arith, d, k))

-- what a digit more keeps
module _ (n more : ℕ) where
  pub preserved : (text : List ℕ) → 1 ≤ length text → length text ≤ 9 → n < 10 ^ (9 - length text)
      → (is_digit (slice_index_or text 0 0) ≡ true) × (more ≡ n * 10 + (slice_index_or text 0 0 - 48)) × (slice_index_or text 0 0 - 48 ≤ 9)
      → (length (take (length text - 1) (drop 1 text)) ≤ 9) × (more < 10 ^ (9 - length (take (length text - 1) (drop 1 text))))
      × (digits_from more (take (length text - 1) (drop 1 text)) ≡ digits_from n text)
  preserved [] some few less h = absurd (omega (arith, some))
  preserved (byte ∷ rest) some few less (digit, is, small) =
      let rest_is : take (length (byte ∷ rest) - 1) rest ≡ rest = take_all (length (byte ∷ rest) - 1) rest (omega arith) in
      let longer : 9 - length rest ≡ 9 - (length (byte ∷ rest) - 1) = omega (arith, some) in
      let bound : n * 10 + (byte - 48) < 10 ^ (9 - length rest) = rw longer (next n (byte - 48) (length (byte ∷ rest)) some few small less) in
      rw (rest_is, is) (omega (arith, few), bound, sym (ap (λ b. if b then digits_from (n * 10 + (byte - 48)) rest else None) digit))
