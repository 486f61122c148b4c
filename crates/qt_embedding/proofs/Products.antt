-- The entries of the full product of an operator under masks, one by one.
use Rattle.std.proofs.Common.{◌≡◌, ℕ, ◌+◌, ◌-◌, ◌^◌, ◌<◌, Bool, true, false, cond, List, [], ◌∷◌, get_or, refl, sym, ap, ◌∙◌}
use Rattle.std.specs.Int.{bit_at}
use Rattle.std.proofs.lemmas.Nat.Bits.{bit_at-lt}
use Rattle.qt_ring.specs.declared.omega.Omega.{Omega}
use Rattle.qt_ring.specs.Ring.{nil, times, two_to}
use Rattle.qt_ring.specs.Places.{is_one, bits_of, AreQubits}
use Rattle.qt_ring.specs.Matrix.{Matrix, Operator}
use Rattle.qt_ring.specs.State.{State, HasAllEntries, applied}
use Rattle.qt_ring.proofs.Sums.{act}
use Rattle.qt_ring.proofs.Acts.{choose}
use Rattle.qt_ring.proofs.Entries.{entry, number_bits_of}
use Rattle.qt_ring.proofs.Gates.{applied_at, act_zero, act_one, by_bit}
use Rattle.qt_embedding.specs.Controls.{Control, under_all, qubits_under, controls_from, AreMasks, IsTarget}
use Rattle.qt_embedding.specs.Entries.{masks_hold, row, paired_entry, masked_entry}
use Rattle.qt_embedding.proofs.Masks.{masks_are, masks_fit_one, masks_fit_none}
use Rattle.qt_embedding.proofs.Controls.{act_under_all}

choose_is : (s : Bool) (p q r : Omega) → q ≡ r → choose s p q ≡ cond s p r
choose_is true p q r e = refl
choose_is false p q r e = e

-- the entry at an index, by what the operator does where the masks hold
masked : (s : State) (g : Operator) (qs : List ℕ) (ones off i : ℕ) → AreMasks s.qubits ones off → AreQubits s.qubits (qubits_under (controls_from 0 s.qubits ones off) qs) → HasAllEntries s → i < 2 ^ s.qubits → get_or (applied (under_all (controls_from 0 s.qubits ones off) g) (qubits_under (controls_from 0 s.qubits ones off) qs) s).entries i nil ≡ masked_entry ones off g.halvings (act g.entries qs (entry s.entries) (bits_of s.qubits i)) s.entries i
masked s g qs ones off i m f full l =
    let n : ℕ = s.qubits in
    let cs : List Control = controls_from 0 n ones off in
    let a : Omega = act g.entries qs (entry s.entries) (bits_of n i) in
    let e : Omega = entry s.entries (bits_of n i) in
    applied_at (under_all cs g) (qubits_under cs qs) s i f full l
    ∙ act_under_all cs g qs (entry s.entries) (bits_of n i)
    ∙ ap (λ b. choose b a (times (two_to g.halvings) e)) (masks_are n ones off i m)
    ∙ choose_is (masks_hold ones off i) a _ _ (ap (λ k. times (two_to g.halvings) (get_or s.entries k nil)) (number_bits_of n i l))

paired : (n i t : ℕ) (m : Matrix) (es : List Omega) → i < 2 ^ n → t < n → act m (t ∷ []) (entry es) (bits_of n i) ≡ paired_entry m t es i
paired n i t m es l h =
    let one : Omega = row m true (get_or es (i - 2 ^ t) nil) (get_or es i nil) in
    let none : Omega = row m false (get_or es i nil) (get_or es (i + 2 ^ t) nil) in
    by_bit (bit_at i t) (bit_at-lt i t)
    (λ z. act_zero n t i m es l h z ∙ ap (λ k. cond (is_one k) one none) (sym z))
    (λ o. act_one n t i m es l h o ∙ ap (λ k. cond (is_one k) one none) (sym o))

-- an operator on one qubit
pub one_qubit_multiplies : (s : State) (g : Operator) (ones off t i : ℕ) → AreMasks s.qubits ones off → IsTarget s.qubits ones off t → HasAllEntries s → i < 2 ^ s.qubits → get_or (applied (under_all (controls_from 0 s.qubits ones off) g) (qubits_under (controls_from 0 s.qubits ones off) (t ∷ [])) s).entries i nil ≡ masked_entry ones off g.halvings (paired_entry g.entries t s.entries i) s.entries i
one_qubit_multiplies s g ones off t i m r full l =
    masked s g (t ∷ []) ones off i m (masks_fit_one s.qubits ones off t m r) full l
    ∙ ap (λ a. masked_entry ones off g.halvings a s.entries i) (paired s.qubits i t g.entries s.entries l r.target_in)

-- an operator on no qubits, which is a factor
pub no_qubit_multiplies : (s : State) (g : Operator) (ones off i : ℕ) → AreMasks s.qubits ones off → HasAllEntries s → i < 2 ^ s.qubits → get_or (applied (under_all (controls_from 0 s.qubits ones off) g) (qubits_under (controls_from 0 s.qubits ones off) []) s).entries i nil ≡ masked_entry ones off g.halvings (times (g.entries [] []) (get_or s.entries i nil)) s.entries i
no_qubit_multiplies s g ones off i m full l =
    masked s g [] ones off i m (masks_fit_none s.qubits ones off m) full l
    ∙ ap (λ k. masked_entry ones off g.halvings (times (g.entries [] []) (get_or s.entries k nil)) s.entries i) (number_bits_of s.qubits i l)
