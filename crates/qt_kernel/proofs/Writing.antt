-- The amplitudes of a pair after a gate are the entries at its indexes, and the loop that writes them.
use Rattle.std.proofs.Common.{◌≡◌, ◌≢◌, ℕ, ◌+◌, ◌-◌, ◌*◌, ◌%◌, ◌^◌, ◌<◌, ◌≤◌, Bool, true, false, cond, List, length, get_or, set, sym, ap, subst, ◌∙◌, arith}
use Rattle.std.specs.Int.{bit_at}
use Rattle.std.specs.Int.RustNames.{bit_and, bit_or}
use mathlib.Core.Logic.{inl, inr}
use Rattle.std.proofs.lemmas.Nat.{one_shl, pow_below}
use Rattle.qt_ring.specs.declared.omega.Omega.{Omega}
use Rattle.qt_ring.specs.declared.TheConstants.{QUBITS}
use Rattle.qt_ring.specs.Ring.{nil, times, two_to}
use Rattle.qt_ring.specs.Division.{Divides}
use Rattle.qt_ring.specs.Places.{is_one}
use Rattle.qt_vector.specs.States.{IsSmall}
use Rattle.qt_embedding.specs.Entries.{masks_hold, row}
use Rattle.qt_embedding.proofs.Tests.{same_or_not}
use Rattle.qt_embedding.proofs.Twins.{Reached, twin_bit, masks_hold_twin, twin_is, twin_lt, clear_bit, set_bit, pair_left, passed, written}
use Rattle.qt_kernel.specs.declared.gate.ControlledU.{ControlledU}
use Rattle.qt_kernel.specs.Gates.{u_matrix, low_after, high_after, entry_after, Suits, AllDivide, WritesPair}

abbrev pub held : ControlledU → ℕ → Bool
held g i = masks_hold g.controls.ones g.controls.zeros i

-- ---- the entries at a pair
pub low_entry : (g : ControlledU) (i : ℕ) (es : List Omega) → bit_at i g.target ≡ 0 → low_after g (held g i) (get_or es i nil) (get_or es (i + 2 ^ g.target) nil) ≡ entry_after g es i
low_entry g i es e =
    ap (λ k. cond (held g i) (cond (is_one k) (row (u_matrix g.angles) true (get_or es (i - 2 ^ g.target) nil) (get_or es i nil)) (row (u_matrix g.angles) false (get_or es i nil) (get_or es (i + 2 ^ g.target) nil))) (times (two_to 1) (get_or es i nil))) (sym e)

-- the entry at an index whose bit is 1, by the pair
high_by : (g : ControlledU) (j : ℕ) (es : List Omega) → bit_at j g.target ≡ 1 → high_after g (held g j) (get_or es (j - 2 ^ g.target) nil) (get_or es j nil) ≡ entry_after g es j
high_by g j es e =
    ap (λ k. cond (held g j) (cond (is_one k) (row (u_matrix g.angles) true (get_or es (j - 2 ^ g.target) nil) (get_or es j nil)) (row (u_matrix g.angles) false (get_or es j nil) (get_or es (j + 2 ^ g.target) nil))) (times (two_to 1) (get_or es j nil))) (sym e)

pub high_entry : (g : ControlledU) (n i : ℕ) (es : List Omega) → Suits g n es → bit_at i g.target ≡ 0 → high_after g (held g i) (get_or es i nil) (get_or es (i + 2 ^ g.target) nil) ≡ entry_after g es (i + 2 ^ g.target)
high_entry g n i es s e =
    let back : i + 2 ^ g.target - 2 ^ g.target ≡ i = omega arith in
    let a : Omega = get_or es (i + 2 ^ g.target) nil in
    ap (λ b. high_after g b (get_or es i nil) a) (sym (masks_hold_twin g.target i g.controls.ones g.controls.zeros e s.target.not_in_ones s.target.not_in_clear))
    ∙ ap (λ k. high_after g (held g (i + 2 ^ g.target)) (get_or es k nil) a) (sym back)
    ∙ high_by g (i + 2 ^ g.target) es (twin_bit g.target i e)

-- ---- one index by itself
pub low_alone : (g : ControlledU) (i bit : ℕ) (es : List Omega) (h : Bool) (r : Omega) → bit ≡ 2 ^ g.target → bit_and i bit ≡ 0 → h ≡ held g i → r ≡ low_after g h (get_or es i nil) (get_or es (bit_or i bit) nil) → r ≡ entry_after g es i
low_alone g i bit es h r b z m e =
    e ∙ ap (λ k. low_after g h (get_or es i nil) (get_or es k nil)) (twin_is g.target i bit b z)
    ∙ ap (λ t. low_after g t (get_or es i nil) (get_or es (i + 2 ^ g.target) nil)) m
    ∙ low_entry g i es (clear_bit g.target i bit b z)

pub high_alone : (g : ControlledU) (i bit : ℕ) (es : List Omega) (h : Bool) (r : Omega) → bit ≡ 2 ^ g.target → (bit_and i bit ≡ 0 → ⊥) → h ≡ held g i → r ≡ high_after g h (get_or es (i - bit) nil) (get_or es i nil) → r ≡ entry_after g es i
high_alone g i bit es h r b z m e =
    e ∙ ap (λ k. high_after g h (get_or es (i - k) nil) (get_or es i nil)) b
    ∙ ap (λ t. high_after g t (get_or es (i - 2 ^ g.target) nil) (get_or es i nil)) m
    ∙ high_by g i es (set_bit g.target i bit b z)

-- ---- the loop
-- over 2^by the entry at an index is the new one
abbrev pub IsNew : ControlledU → ℕ → List Omega → ℕ → Omega → Type 0
IsNew g by old j x = times (two_to by) x ≡ entry_after g old j

-- how far the loop has come
abbrev pub Writing : ControlledU → ℕ → List Omega → List Omega → ℕ → Type 0
Writing g by old now i = Reached g.target (IsNew g by old) old now i

-- where it stands at an index whose bit is 0
pub record Stands (g : ControlledU) (n : ℕ) (old now : List Omega) (i bit : ℕ) : Type 0 where
  pub suits : Suits g n old
  pub index_in : i < 2 ^ n
  pub twin_in : i + 2 ^ g.target < 2 ^ n
  pub filled : length now ≡ 2 ^ n
  pub clear : bit_at i g.target ≡ 0
  pub twin : bit_or i bit ≡ i + 2 ^ g.target
  pub here : get_or now i nil ≡ get_or old i nil
  pub there : get_or now (i + 2 ^ g.target) nil ≡ get_or old (i + 2 ^ g.target) nil

pub stands : (g : ControlledU) (by n : ℕ) (old now : List Omega) (i bit : ℕ) → Suits g n old → length now ≡ length old → i < length now → bit ≡ 2 ^ g.target → bit_and i bit ≡ 0 → Writing g by old now i → Stands g n old now i bit
stands g by n old now i bit s l k b z r =
    let all : length old ≡ 2 ^ n = s.all in
    let e : bit_at i g.target ≡ 0 = clear_bit g.target i bit b z in
    let w : bit_or i bit ≡ i + 2 ^ g.target = twin_is g.target i bit b z in
    let t : bit_or i bit < 2 ^ n = twin_lt n g.target i bit b (omega arith) s.target.target_in in
    let p = pair_left g.target i (IsNew g by old) old now e (omega arith) r in
    record {
      suits = s;
      index_in = omega arith;
      twin_in = omega arith;
      filled = l ∙ all;
      clear = e;
      twin = w;
      here = p.0;
      there = p.1;
    }

pair_now : (g : ControlledU) (n : ℕ) (old now : List Omega) (i bit : ℕ) (f : Omega → Omega → Omega) → Stands g n old now i bit → f (get_or now i nil) (get_or now (bit_or i bit) nil) ≡ f (get_or old i nil) (get_or old (i + 2 ^ g.target) nil)
pair_now g n old now i bit f d =
    ap (λ k. f (get_or now i nil) (get_or now k nil)) d.twin
    ∙ ap (λ b. f (get_or now i nil) b) d.there
    ∙ ap (λ a. f a (get_or old (i + 2 ^ g.target) nil)) d.here

low_now : (g : ControlledU) (n : ℕ) (old now : List Omega) (i bit : ℕ) → Stands g n old now i bit → low_after g (held g i) (get_or now i nil) (get_or now (bit_or i bit) nil) ≡ entry_after g old i
low_now g n old now i bit d = pair_now g n old now i bit (low_after g (held g i)) d ∙ low_entry g i old d.clear

high_now : (g : ControlledU) (n : ℕ) (old now : List Omega) (i bit : ℕ) → Stands g n old now i bit → high_after g (held g i) (get_or now i nil) (get_or now (bit_or i bit) nil) ≡ entry_after g old (i + 2 ^ g.target)
high_now g n old now i bit d = pair_now g n old now i bit (high_after g (held g i)) d ∙ high_entry g n i old d.suits d.clear

-- what the writing of a pair asks for
pub low_small : (g : ControlledU) (n : ℕ) (old now : List Omega) (i bit : ℕ) → Stands g n old now i bit → IsSmall (get_or now i nil)
low_small g n old now i bit d = let a = d.suits.all in let l = d.index_in in subst IsSmall (sym d.here) (d.suits.small i nil (omega arith))

pub high_small : (g : ControlledU) (n : ℕ) (old now : List Omega) (i bit : ℕ) → Stands g n old now i bit → IsSmall (get_or now (bit_or i bit) nil)
high_small g n old now i bit d =
    let a = d.suits.all in
    let l = d.twin_in in
    subst IsSmall (sym (ap (λ k. get_or now k nil) d.twin ∙ d.there)) (d.suits.small (i + 2 ^ g.target) nil (omega arith))

pub low_divides : (g : ControlledU) (by n : ℕ) (old now : List Omega) (i bit : ℕ) → AllDivide g by old → Stands g n old now i bit → Divides (two_to by) (low_after g (held g i) (get_or now i nil) (get_or now (bit_or i bit) nil))
low_divides g by n old now i bit h d =
    let a = d.suits.all in
    let l = d.index_in in
    subst (Divides (two_to by)) (sym (low_now g n old now i bit d)) (h i (omega arith))

pub high_divides : (g : ControlledU) (by n : ℕ) (old now : List Omega) (i bit : ℕ) → AllDivide g by old → Stands g n old now i bit → Divides (two_to by) (high_after g (held g i) (get_or now i nil) (get_or now (bit_or i bit) nil))
high_divides g by n old now i bit h d =
    let a = d.suits.all in
    let l = d.twin_in in
    subst (Divides (two_to by)) (sym (high_now g n old now i bit d)) (h (i + 2 ^ g.target) (omega arith))

-- and one step of it
pub pair_written : (g : ControlledU) (by n : ℕ) (old now new : List Omega) (i bit : ℕ) → Stands g n old now i bit → WritesPair g by i (bit_or i bit) now new → Writing g by old now i → Writing g by old new (i + 1)
pair_written g by n old now new i bit d p r =
    let e = d.filled in
    let l = d.twin_in in
    subst (λ (x : List Omega). Writing g by old x (i + 1)) (sym (p.written ∙ ap (λ j. set (set now i p.first) j p.second) d.twin))
    (written g.target i (IsNew g by old) old now p.first p.second d.clear (omega arith) (p.first_is ∙ low_now g n old now i bit d) (p.second_is ∙ high_now g n old now i bit d) r)

pub index_passed : (g : ControlledU) (by : ℕ) (old now new : List Omega) (i bit : ℕ) → bit ≡ 2 ^ g.target → (bit_and i bit ≡ 0 → ⊥) → new ≡ now → Writing g by old now i → Writing g by old new (i + 1)
index_passed g by old now new i bit b z e r =
    subst (λ (x : List Omega). Writing g by old x (i + 1)) (sym e) (passed g.target i (IsNew g by old) old now (set_bit g.target i bit b z) r)

-- ---- what a suitable gate says of the machine's words
pub bit_is : (g : ControlledU) (n : ℕ) (es : List Omega) → Suits g n es → 1 * 2 ^ g.target % 2 ^ 64 ≡ 2 ^ g.target
bit_is g n es s = let l = s.target.target_in in let f = s.few in one_shl g.target 64 (omega arith)

small_power : (n : ℕ) → n ≤ QUBITS → 2 ^ n ≤ 2 ^ QUBITS
small_power n h = elim (same_or_not n QUBITS) [
  | inl e ↦ (let p : 2 ^ n ≡ 2 ^ QUBITS = ap (λ (k : ℕ). 2 ^ k) e in omega arith)
  | inr f ↦ (let p : 2 ^ n < 2 ^ QUBITS = pow_below n QUBITS (let g : n ≢ QUBITS = f in omega arith) in omega arith)
]

pub short : (g : ControlledU) (n : ℕ) (es : List Omega) → Suits g n es → 2 ^ n ≤ 2 ^ QUBITS
short g n es s = small_power n s.few

pub moved : (g : ControlledU) (by low high : ℕ) (old now new : List Omega) → new ≡ now → WritesPair g by low high old now → WritesPair g by low high old new
moved g by low high old now new e p = record { first = p.first; second = p.second; first_is = p.first_is; second_is = p.second_is; written = e ∙ p.written }
