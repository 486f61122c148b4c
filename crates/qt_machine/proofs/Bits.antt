-- One bit of a word.
use Rattle.std.proofs.Common.{◌≡◌, ◌≢◌, ℕ, zero, suc, ◌+◌, ◌-◌, ◌*◌, ◌/◌, ◌%◌, ◌^◌, ◌<◌, ◌≤◌, false, ◌||◌, nat_eq, inl, inr, refl, sym, ap, ◌∙◌, bit_and, bit_or, pow-add, arith}
use Rattle.std.specs.Int.{bit_at}
use Rattle.std.proofs.lemmas.Nat.Bits.{shr_and_one, bit_at-lt}
use Rattle.std.proofs.lemmas.Nat.{pow_pos}
use Rattle.std.proofs.Math.Nat.{mod-lt, mod-eq_of_lt, div-add-mod', mul-le-mul_right, pow-suc}
use Rattle.std.proofs.lemmas.Bool.Decides.{eqb_tells, leb_tells}
use Rattle.qt_ring.specs.Places.{is_one}
use Rattle.qt_meaning.specs.Values.{with_bit}
use Rattle.qt_machine.specs.declared.qubits.Named.{Named}
use Rattle.qt_machine.specs.Named.{with_qubit}

pub not_same : (a b : ℕ) → a ≢ b → nat_eq a b ≡ false
not_same a b n = elim (eqb_tells a b) [ inl e ↦ absurd (n e.1) | inr e ↦ e.0 ]

-- 2^p in a word of more than p bits
pub power_in : (p w : ℕ) → p < w → 1 * 2 ^ p % 2 ^ w ≡ 2 ^ p
power_in p w h =
    let split : 2 ^ (w - suc p) * 2 ^ suc p ≡ 2 ^ w = sym (pow-add 2 (w - suc p) (suc p)) ∙ ap (λ k. 2 ^ k) (omega arith) in
    let double : 2 ^ suc p ≡ 2 * 2 ^ p = omega (arith, pow-suc 2 p) in
    let one : 1 ≤ 2 ^ (w - suc p) = pow_pos (w - suc p) in
    let more : 1 * 2 ^ suc p ≤ 2 ^ (w - suc p) * 2 ^ suc p = mul-le-mul_right (2 ^ suc p) one in
    let positive = pow_pos p in
    ap (λ k. k % 2 ^ w) (omega arith) ∙ mod-eq_of_lt (omega arith)

pub set_bit : (n p : ℕ) → bit_at n p ≡ 1 → 2 ^ p ≤ n
set_bit n p e =
    let some : 1 ≤ n / 2 ^ p = omega (arith, div-add-mod' (n / 2 ^ p) 2) in
    let more : 1 * 2 ^ p ≤ n / 2 ^ p * 2 ^ p = mul-le-mul_right (2 ^ p) some in
    omega (arith, div-add-mod' n (2 ^ p))

room_for : (n p m : ℕ) → n / 2 ^ p / 2 < m → bit_at n p ≡ 0 → n + 2 ^ p < m * (2 * 2 ^ p)
room_for n p m h e =
    let rest : n % 2 ^ p < 2 ^ p = mod-lt n (pow_pos p) in
    let more : suc (n / 2 ^ p / 2) * (2 * 2 ^ p) ≤ m * (2 * 2 ^ p) = mul-le-mul_right (2 * 2 ^ p) h in
    let half : n / 2 ^ p ≡ 2 * (n / 2 ^ p / 2) = omega (arith, div-add-mod' (n / 2 ^ p) 2) in
    let whole : n / 2 ^ p * 2 ^ p ≡ 2 * (n / 2 ^ p / 2) * 2 ^ p = ap (λ t. t * 2 ^ p) half in
    omega (arith, div-add-mod' n (2 ^ p))

half_below : (n p m : ℕ) → n < m * (2 * 2 ^ p) → n / 2 ^ p / 2 < m
half_below n p m h = elim (leb_tells m (n / 2 ^ p / 2)) [
  | inl e ↦
      let more : m * (2 * 2 ^ p) ≤ n / 2 ^ p / 2 * (2 * 2 ^ p) = mul-le-mul_right (2 * 2 ^ p) e.1 in
      let less : 2 * (n / 2 ^ p / 2) ≤ n / 2 ^ p = omega (arith, div-add-mod' (n / 2 ^ p) 2) in
      let all : 2 * (n / 2 ^ p / 2) * 2 ^ p ≤ n / 2 ^ p * 2 ^ p = mul-le-mul_right (2 ^ p) less in
      absurd (omega (arith, div-add-mod' n (2 ^ p)))
  | inr e ↦ omega arith
]

pub room : (n p : ℕ) → p < 64 → n < 2 ^ 64 → bit_at n p ≡ 0 → n + 2 ^ p < 2 ^ 64
room n p h l e =
    let both : (63 - p) + suc p ≡ 64 = omega arith in
    let split : 2 ^ (63 - p) * 2 ^ suc p ≡ 2 ^ 64 = sym (pow-add 2 (63 - p) (suc p)) ∙ ap (λ k. 2 ^ k) both in
    let twice : 2 * 2 ^ p ≡ 2 ^ suc p = omega (arith, pow-suc 2 p) in
    let double : 2 ^ (63 - p) * (2 * 2 ^ p) ≡ 2 ^ 64 = ap (λ t. 2 ^ (63 - p) * t) twice ∙ split in
    let inside : n < 2 ^ (63 - p) * (2 * 2 ^ p) = omega arith in
    let all = room_for n p (2 ^ (63 - p)) (half_below n p (2 ^ (63 - p)) inside) e in
    omega arith

pub bit_cleared : (p bit bits : ℕ) → bit ≡ 0 → bit_at bits p ≡ 1 → bits - 2 ^ p ≡ with_bit p bit bits
unfolding with_bit
bit_cleared p bit bits e f = rw (e, f) (omega arith)

pub bit_added : (p bit bits : ℕ) → bit ≡ 1 → bit_at bits p ≡ 0 → bits + 2 ^ p ≡ with_bit p bit bits
unfolding with_bit
bit_added p bit bits e f = rw (e, f) (omega arith)

-- the bit that is tested in a word
pub other_bit : (bits p bit : ℕ) → bit_and (bits / 2 ^ p) 1 ≢ bit → bit < 2 → bit_at bits p ≡ 1 - bit
other_bit bits p bit n h =
    let e = shr_and_one bits p in
    let b = bit_at-lt bits p in
    let other : bit_at bits p ≢ bit = λ f. n (e ∙ f) in
    omega arith

tested : (k : ℕ) → k < 2 → nat_eq k 1 ≡ is_one k
tested zero h = refl
tested (suc zero) h = refl
tested (suc (suc k)) h = absurd (omega arith)

pub named_with : (named : Named) (q : ℕ) → q < 32 → named.twice ≡ false → record {
  mask = bit_or named.mask (1 * 2 ^ q % 4294967296);
  twice = nat_eq (bit_and (named.mask / 2 ^ q) 1) 1;
} ≡ with_qubit q named
named_with named q h f =
    let e : 1 * 2 ^ q % 4294967296 ≡ 2 ^ q = power_in q 32 h in
    let t : nat_eq (bit_and (named.mask / 2 ^ q) 1) 1 ≡ (named.twice || is_one (bit_at named.mask q)) =
    ap (λ k. nat_eq k 1) (shr_and_one named.mask q)
    ∙ tested (bit_at named.mask q) (bit_at-lt named.mask q)
    ∙ sym (ap (λ b. b || is_one (bit_at named.mask q)) f) in
    λ i. record { mask = bit_or named.mask (e i); twice = t i }
