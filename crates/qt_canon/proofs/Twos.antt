-- The greatest power of 2 that divides all entries, by the lowest bit of their joined sizes.
use Rattle.std.proofs.Common.{◌≡◌, ℕ, zero, suc, ◌<◌, ◌≤◌, ◌%◌, ◌^◌, List, refl, arith}
use Rattle.std.specs.Int.{w64, trailing_zeros}
use Rattle.std.specs.Prelude.{◌↔◌, false, All}
use Rattle.qt_ring.specs.declared.omega.Omega.{Omega}
use Rattle.qt_ring.specs.Ring.{two_to, Within}
use Rattle.qt_ring.specs.Multiples.{DividesAll}
use Rattle.qt_ring.specs.State.{all_nil}
use Rattle.qt_canon_laws.proofs.FirstEntries.{some_first_entry}
use Rattle.qt_canon_laws.proofs.Twos.{twos_at_most}
use Rattle.qt_canon.proofs.Bits.{lowest_bit}
use Rattle.qt_canon.proofs.Divisors.{first_entry_all}

pub record IsGreatestTwos (t : ℕ) (v : List Omega) : Type 0 where
  pub few : t ≤ 54
  pub whole : DividesAll (two_to t) v
  pub greatest : (k : ℕ) → DividesAll (two_to k) v → k ≤ t

few_twos : (v : List Omega) → all_nil v ≡ false → All (Within (2 ^ 54)) v → (k : ℕ) → DividesAll (two_to k) v → k ≤ 54
few_twos v some within = twos_at_most 54 v (some_first_entry v some) (first_entry_all (Within (2 ^ 54)) v some within)

some_bit : (v : List Omega) (n : ℕ) → ((k : ℕ) → DividesAll (two_to k) v → k ≤ 54) → ((t : ℕ) → ((n % 2 ^ t ≡ 0) ↔ DividesAll (two_to t) v)) → 0 < n
some_bit v zero few f = let l : 55 ≤ 54 = few 55 ((f 55).0 refl) in absurd (omega arith)
some_bit v (suc n) few f = omega arith

pub greatest_twos_is : (v : List Omega) (n : ℕ) → all_nil v ≡ false → All (Within (2 ^ 54)) v → n < 2 ^ 64 → ((t : ℕ) → ((n % 2 ^ t ≡ 0) ↔ DividesAll (two_to t) v)) → IsGreatestTwos (trailing_zeros w64 n) v
greatest_twos_is v n some within fits f =
    let few = few_twos v some within in
    let lowest = lowest_bit n (some_bit v n few f) fits in
    let t : ℕ = trailing_zeros w64 n in
    let whole : DividesAll (two_to t) v = (f t).0 lowest.whole in
    record { few = few t whole; whole = whole; greatest = λ k d. lowest.greatest k ((f k).1 d) }
