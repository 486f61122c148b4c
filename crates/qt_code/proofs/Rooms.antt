-- Room for so many things, in parts.
use Rattle.std.proofs.Common.{◌≡◌, sym, ◌∙◌, ℕ, ◌+◌, ◌-◌, ◌*◌, ◌/◌, ◌<◌, ◌≤◌, nat_le, true, false, inl, inr, arith}
use Rattle.std.proofs.lemmas.Bool.{le-leb, lt-leb}
use Rattle.std.proofs.lemmas.Bool.Decides.{leb_tells}
use Rattle.std.proofs.lemmas.Nat.{div-add-mod', le-div}
use Rattle.std.proofs.Math.Nat.{mul-le-mul_left}

pub same_room : (a b c d : ℕ) → (a ≤ b → c ≤ d) → (c ≤ d → a ≤ b) → nat_le a b ≡ nat_le c d
same_room a b c d there back =
    elim (leb_tells a b) [
      | inl h ↦ h.0 ∙ sym (le-leb c d (there h.1))
      | inr h ↦ elim (leb_tells c d) [ inl k ↦ absurd (omega (arith, back k.1, h.1)) | inr k ↦ h.0 ∙ sym k.0 ]
    ]

pub behind_there : (n count room : ℕ) → 0 < n → count ≤ room / n → n * count ≤ room
behind_there n count room h few = omega (arith, mul-le-mul_left n few, div-add-mod' room n)

pub behind_back : (n count room : ℕ) → 0 < n → n * count ≤ room → count ≤ room / n
behind_back n count room h few = le-div count room n h (omega (arith, few))

-- so many things each of a number of times
pub room_behind : (n count room : ℕ) → 0 < n → nat_le count (room / n) ≡ nat_le (n * count) room
room_behind n count room h = same_room count (room / n) (n * count) room (behind_there n count room h) (behind_back n count room h)

pub room_for_none : (count room : ℕ) → nat_le (0 * count) room ≡ true
room_for_none count room = le-leb (0 * count) room (omega arith)

pub room_from : (first count all : ℕ) → first ≤ all → nat_le count (all - first) ≡ nat_le (first + count) all
room_from first count all h = same_room count (all - first) (first + count) all (λ k. omega (arith, h, k)) (λ k. omega (arith, h, k))

pub no_room : (first count all : ℕ) → all < first → nat_le (first + count) all ≡ false
no_room first count all h = lt-leb (first + count) all (omega (arith, h))
