-- Indexes and their twins, which differ in one bit, and how far a loop over the pairs has come.
use Rattle.std.proofs.Common.{◌≡◌, ◌≢◌, ℕ, zero, suc, ◌+◌, ◌-◌, ◌*◌, ◌/◌, ◌%◌, ◌^◌, ◌<◌, ◌≤◌, ◌&&◌, List, length, get_or, nat_eq, refl, sym, ap, subst, ◌∙◌, arith}
use Rattle.std.specs.Int.{bit_at}
use Rattle.std.specs.Int.RustNames.{bit_and, bit_or}
use Rattle.std.proofs.lemmas.Nat.Bits.{bit_at-lt, and_pow}
use Rattle.std.proofs.lemmas.Nat.{div-mul-add, div-add-mod', mod_below, or_disjoint, and_or_apart, pow_below, pow_pos, and_comm, or_lt}
use Rattle.std.proofs.lemmas.Grind.{common_steps}
use Rattle.std.proofs.Math.ListN.{set, length-set}
use mathlib.Core.Logic.{◌⊎◌, inl, inr}
use Rattle.qt_ring.specs.declared.omega.Omega.{Omega}
use Rattle.qt_ring.specs.Ring.{nil}
use Rattle.qt_embedding.specs.Entries.{masks_hold}
use Rattle.qt_embedding.proofs.Tests.{same_or_not, zero_or_one}

-- ---- bits of numbers

odd_next : (q : ℕ) → q % 2 ≡ 0 → (q + 1) % 2 ≡ 1
odd_next q e = omega arith

even_before : (q : ℕ) → q % 2 ≡ 1 → (q - 1) % 2 ≡ 0
even_before q e = omega arith

over : (q w r j : ℕ) → q * w + r ≡ j → 0 < q → w ≤ j
over zero w r j d h = absurd (omega arith)
over (suc q) w r j d h = omega arith

less_suc : (q w r j : ℕ) → suc q * w + r ≡ j → j - w ≡ q * w + r
less_suc q w r j d = omega arith

less : (q w r j : ℕ) → q * w + r ≡ j → 0 < q → j - w ≡ (q - 1) * w + r
less zero w r j d h = absurd (omega arith)
less (suc q) w r j d h = let e : suc q - 1 ≡ q = omega arith in less_suc q w r j d ∙ ap (λ k. k * w + r) (sym e)

-- the quotient above a place
bit_cut : (t q r : ℕ) → r < 2 ^ t → bit_at (q * 2 ^ t + r) t ≡ q % 2
bit_cut t q r h = ap (λ k. k % 2) (div-mul-add q (2 ^ t) r h)

-- the twin of an index whose bit is 0
pub twin_bit : (t i : ℕ) → bit_at i t ≡ 0 → bit_at (i + 2 ^ t) t ≡ 1
twin_bit t i e =
    let p : 0 < 2 ^ t = pow_pos t in
    let r : i % 2 ^ t < 2 ^ t = mod_below i (2 ^ t) p in
    let d : i / 2 ^ t * 2 ^ t + i % 2 ^ t ≡ i = div-add-mod' i (2 ^ t) in
    let s : i + 2 ^ t ≡ (i / 2 ^ t + 1) * 2 ^ t + i % 2 ^ t = omega arith in
    let c : bit_at ((i / 2 ^ t + 1) * 2 ^ t + i % 2 ^ t) t ≡ (i / 2 ^ t + 1) % 2 = bit_cut t (i / 2 ^ t + 1) (i % 2 ^ t) r in
    ap (λ k. bit_at k t) s ∙ c ∙ odd_next (i / 2 ^ t) e

-- of an index whose bit is 1, the one before it
pub before_twin : (t j : ℕ) → bit_at j t ≡ 1 → (2 ^ t ≤ j) × (bit_at (j - 2 ^ t) t ≡ 0)
before_twin t j e =
    let p : 0 < 2 ^ t = pow_pos t in
    let r : j % 2 ^ t < 2 ^ t = mod_below j (2 ^ t) p in
    let d : j / 2 ^ t * 2 ^ t + j % 2 ^ t ≡ j = div-add-mod' j (2 ^ t) in
    let q : 0 < j / 2 ^ t = omega arith in
    let s : j - 2 ^ t ≡ (j / 2 ^ t - 1) * 2 ^ t + j % 2 ^ t = less (j / 2 ^ t) (2 ^ t) (j % 2 ^ t) j d q in
    let c : bit_at ((j / 2 ^ t - 1) * 2 ^ t + j % 2 ^ t) t ≡ (j / 2 ^ t - 1) % 2 = bit_cut t (j / 2 ^ t - 1) (j % 2 ^ t) r in
    let f : 2 ^ t ≤ j = over (j / 2 ^ t) (2 ^ t) (j % 2 ^ t) j d q in
    (f, ap (λ k. bit_at k t) s ∙ c ∙ even_before (j / 2 ^ t) e)

-- ---- masks as the code tests them

pub zero_times : (b w : ℕ) → b ≡ 0 → b * w ≡ 0
zero_times zero w e = omega arith
zero_times (suc b) w e = absurd (omega arith)

bit_off : (b w : ℕ) → 0 < w → b * w ≡ 0 → b ≡ 0
bit_off zero w h e = refl
bit_off (suc b) w h e = absurd (omega arith)

-- an index whose bit is 0, by the mask `bit` of one bit
pub clear_bit : (t i bit : ℕ) → bit ≡ 2 ^ t → bit_and i bit ≡ 0 → bit_at i t ≡ 0
clear_bit t i bit b z = bit_off (bit_at i t) (2 ^ t) (pow_pos t) (sym (and_pow i t) ∙ ap (bit_and i) (sym b) ∙ z)

pub set_bit : (t i bit : ℕ) → bit ≡ 2 ^ t → (bit_and i bit ≡ 0 → ⊥) → bit_at i t ≡ 1
set_bit t i bit b z = elim (zero_or_one (bit_at i t) (bit_at-lt i t)) [
  | inl e ↦ absurd (z (ap (bit_and i) b ∙ and_pow i t ∙ zero_times (bit_at i t) (2 ^ t) e))
  | inr e ↦ e
]

pub twin_is : (t i bit : ℕ) → bit ≡ 2 ^ t → bit_and i bit ≡ 0 → bit_or i bit ≡ i + 2 ^ t
twin_is t i bit b z = ap (bit_or i) b ∙ or_disjoint i (2 ^ t) (ap (bit_and i) (sym b) ∙ z)

pub twin_lt : (n t i bit : ℕ) → bit ≡ 2 ^ t → i < 2 ^ n → t < n → bit_or i bit < 2 ^ n
twin_lt n t i bit e h k = or_lt n i bit h (let l : 2 ^ t < 2 ^ n = pow_below t n k in omega arith)

pub bit_below : (t i bit : ℕ) → bit ≡ 2 ^ t → (bit_and i bit ≡ 0 → ⊥) → bit ≤ i
bit_below t i bit b z = let l : 2 ^ t ≤ i = (before_twin t i (set_bit t i bit b z)).0 in omega arith

and_twin : (t i mask : ℕ) → bit_at i t ≡ 0 → bit_at mask t ≡ 0 → bit_and (i + 2 ^ t) mask ≡ bit_and i mask
and_twin t i mask e f =
    let z : bit_and i (2 ^ t) ≡ 0 = and_pow i t ∙ zero_times (bit_at i t) (2 ^ t) e in
    ap (λ k. bit_and k mask) (sym (or_disjoint i (2 ^ t) z))
    ∙ and_or_apart mask i (2 ^ t) (and_comm (2 ^ t) mask ∙ and_pow mask t ∙ zero_times (bit_at mask t) (2 ^ t) f)

-- a bit that is in no mask counts for nothing
pub masks_hold_twin : (t i ones off : ℕ) → bit_at i t ≡ 0 → bit_at ones t ≡ 0 → bit_at off t ≡ 0 → masks_hold ones off (i + 2 ^ t) ≡ masks_hold ones off i
masks_hold_twin t i ones off e f g =
    ap (λ k. nat_eq k ones && nat_eq (bit_and (i + 2 ^ t) off) 0) (and_twin t i ones e f)
    ∙ ap (λ k. nat_eq (bit_and i ones) ones && nat_eq k 0) (and_twin t i off e g)

-- ---- a loop over the pairs, each at its index whose bit is 0

-- the index of the pair whose bit is 0
abbrev pub low_place : ℕ → ℕ → ℕ
low_place t j = j - bit_at j t * 2 ^ t

none_off : (b w j : ℕ) → b ≡ 0 → j - b * w ≡ j
none_off zero w j e = omega arith
none_off (suc b) w j e = absurd (omega arith)

one_off : (b w j : ℕ) → b ≡ 1 → j - b * w ≡ j - w
one_off zero w j e = absurd (omega arith)
one_off (suc zero) w j e = omega arith
one_off (suc (suc b)) w j e = absurd (omega arith)

low_bit : (t j : ℕ) → bit_at (low_place t j) t ≡ 0
low_bit t j = elim (zero_or_one (bit_at j t) (bit_at-lt j t)) [
  | inl e ↦ ap (λ k. bit_at k t) (none_off (bit_at j t) (2 ^ t) j e) ∙ e
  | inr e ↦ ap (λ k. bit_at k t) (one_off (bit_at j t) (2 ^ t) j e) ∙ (before_twin t j e).1
]

-- indexes with one low place are equal or twins
low_is : (t i j : ℕ) → low_place t j ≡ i → (j ≡ i) ⊎ (j ≡ i + 2 ^ t)
low_is t i j h = elim (zero_or_one (bit_at j t) (bit_at-lt j t)) [
  | inl e ↦ inl (sym (none_off (bit_at j t) (2 ^ t) j e) ∙ h)
  | inr e ↦ inr (let f : 2 ^ t ≤ j = (before_twin t j e).0 in let g : j - 2 ^ t ≡ i = sym (one_off (bit_at j t) (2 ^ t) j e) ∙ h in omega arith)
]

low_of_low : (t i : ℕ) → bit_at i t ≡ 0 → low_place t i ≡ i
low_of_low t i e = none_off (bit_at i t) (2 ^ t) i e

low_of_twin : (t i : ℕ) → bit_at i t ≡ 0 → low_place t (i + 2 ^ t) ≡ i
low_of_twin t i e = let k : i + 2 ^ t - 2 ^ t ≡ i = omega arith in one_off (bit_at (i + 2 ^ t) t) (2 ^ t) (i + 2 ^ t) (twin_bit t i e) ∙ k

-- P holds of each index and its entry where the pair was written, and the other entries are as they were
pub record Reached (t : ℕ) (P : ℕ → Omega → Type 0) (old now : List Omega) (i : ℕ) : Type 0 where
  pub done : (j : ℕ) → j < length now → low_place t j < i → P j (get_or now j nil)
  pub left : (j : ℕ) → j < length now → i ≤ low_place t j → get_or now j nil ≡ get_or old j nil

pub begun : (t : ℕ) (P : ℕ → Omega → Type 0) (old : List Omega) → Reached t P old old 0
begun t P old = record { done = λ j h k. absurd (omega arith); left = λ j h k. refl }

pub ended : (t i : ℕ) (P : ℕ → Omega → Type 0) (old now : List Omega) → length now ≤ i → Reached t P old now i → (j : ℕ) → j < length now → P j (get_or now j nil)
ended t i P old now e r j l = r.done j l (omega arith)

-- an index whose bit is 1 is passed over
pub passed : (t i : ℕ) (P : ℕ → Omega → Type 0) (old now : List Omega) → bit_at i t ≡ 1 → Reached t P old now i → Reached t P old now (i + 1)
passed t i P old now e r = record {
  done = λ j h k. let d : low_place t j ≢ i = (λ f. let z : bit_at i t ≡ 0 = ap (λ m. bit_at m t) (sym f) ∙ low_bit t j in omega arith) in r.done j h (omega arith);
  left = λ j h k. r.left j h (omega arith);
}

two_first : (s : List Omega) (i k : ℕ) (x y : Omega) → i < length s → i ≢ k → get_or (set (set s i x) k y) i nil ≡ x
two_first s i k x y h e = grind (arith, common_steps)

two_second : (s : List Omega) (i k : ℕ) (x y : Omega) → k < length s → get_or (set (set s i x) k y) k nil ≡ y
two_second s i k x y h = grind (arith, common_steps)

two_other : (s : List Omega) (i k j : ℕ) (x y : Omega) → j ≢ i → j ≢ k → get_or (set (set s i x) k y) j nil ≡ get_or s j nil
two_other s i k j x y h e = grind (arith, common_steps)

-- a pair is written
pub written : (t i : ℕ) (P : ℕ → Omega → Type 0) (old now : List Omega) (x y : Omega) → bit_at i t ≡ 0 → i + 2 ^ t < length now → P i x → P (i + 2 ^ t) y → Reached t P old now i → Reached t P old (set (set now i x) (i + 2 ^ t) y) (i + 1)
written t i P old now x y e l ex ey r =
    let p : 0 < 2 ^ t = pow_pos t in
    let new : List Omega = set (set now i x) (i + 2 ^ t) y in
    let n : length new ≡ length now = simp length-set in
    let a : get_or new i nil ≡ x = two_first now i (i + 2 ^ t) x y (omega arith) (omega arith) in
    let b : get_or new (i + 2 ^ t) nil ≡ y = two_second now i (i + 2 ^ t) x y l in
    record {
      done = λ j h k. elim (same_or_not (low_place t j) i) [
        | inl f ↦ elim (low_is t i j f) [
          | inl q ↦ subst (λ (m : ℕ). P m (get_or new m nil)) (sym q) (subst (P i) (sym a) ex)
          | inr q ↦ subst (λ (m : ℕ). P m (get_or new m nil)) (sym q) (subst (P (i + 2 ^ t)) (sym b) ey)
        ]
        | inr f ↦ subst (P j) (sym (two_other now i (i + 2 ^ t) j x y (λ q. f (ap (low_place t) q ∙ low_of_low t i e)) (λ q. f (ap (low_place t) q ∙ low_of_twin t i e)))) (r.done j (omega arith) (omega arith))
      ];
      left = λ j h k.
          let u : j ≢ i = (λ q. let z : low_place t j ≡ i = ap (low_place t) q ∙ low_of_low t i e in omega arith) in
          let w : j ≢ i + 2 ^ t = (λ q. let z : low_place t j ≡ i = ap (low_place t) q ∙ low_of_twin t i e in omega arith) in
          two_other now i (i + 2 ^ t) j x y u w ∙ r.left j (omega arith) (omega arith);
    }

-- the pair at an index whose bit is 0 is as it was
pub pair_left : (t i : ℕ) (P : ℕ → Omega → Type 0) (old now : List Omega) → bit_at i t ≡ 0 → i + 2 ^ t < length now → Reached t P old now i → (get_or now i nil ≡ get_or old i nil) × (get_or now (i + 2 ^ t) nil ≡ get_or old (i + 2 ^ t) nil)
pair_left t i P old now e l r = (
  r.left i (omega arith) (let p : low_place t i ≡ i = low_of_low t i e in omega arith),
  r.left (i + 2 ^ t) l (let p : low_place t (i + 2 ^ t) ≡ i = low_of_twin t i e in omega arith),
)
