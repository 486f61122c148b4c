-- The states that vectors are made with: entries as they stand, and all qubits in 0.
use Rattle.std.proofs.Common.{◌≡◌, ℕ, zero, suc, ◌+◌, ◌-◌, ◌^◌, ◌<◌, ◌≤◌, List, [], ◌∷◌, ◌++◌, length, replicate, ap, subst, sym, ◌∙◌, arith, inl, refl}
use Rattle.std.proofs.lemmas.List.{length-replicate, get_or-replicate, replicate_more}
use Rattle.std.proofs.lemmas.Nat.{pow_pos}
use Rattle.qt_ring.specs.declared.omega.Omega.{Omega}
use Rattle.qt_ring.specs.declared.TheConstants.{QUBITS}
use Rattle.qt_ring.specs.Ring.{nil, one}
use Rattle.qt_ring.specs.State.{State, zero_state}
use Rattle.qt_vector.specs.States.{IsSmall, AreSmall, IsVector}

abbrev pub unhalved : ℕ → List Omega → State
unhalved n es = record { qubits = n; entries = es; halvings = 0 }

-- entries as they stand
pub unhalved_is_vector : (n : ℕ) (es : List Omega) → n ≤ QUBITS → length es ≡ 2 ^ n → AreSmall es → IsVector (unhalved n es)
unhalved_is_vector n es few all small = record {
  few_qubits = few;
  all_entries = all;
  bounded = record { few_halvings = omega arith; small_entries = small };
  least = inl refl;
}

one_small : IsSmall one
unfolding one
one_small = record { c0_in = omega arith; c1_in = omega arith; c2_in = omega arith; c3_in = omega arith }

nil_small : IsSmall nil
unfolding nil
nil_small = record { c0_in = omega arith; c1_in = omega arith; c2_in = omega arith; c3_in = omega arith }

zeros_small : (n : ℕ) → AreSmall (one ∷ replicate n nil)
zeros_small n zero d l = one_small
zeros_small n (suc i) d l = subst IsSmall (sym (get_or-replicate n i nil d (let e : length (replicate n nil) ≡ n = length-replicate n nil in omega arith))) nil_small

-- all qubits in 0
pub zero_is_vector : (n : ℕ) → n ≤ QUBITS → IsVector (zero_state n)
unfolding zero_state
zero_is_vector n few =
    let some : 0 < 2 ^ n = pow_pos n in
    let zeros : length (replicate (2 ^ n - 1) nil) ≡ 2 ^ n - 1 = length-replicate (2 ^ n - 1) nil in
    unhalved_is_vector n (one ∷ replicate (2 ^ n - 1) nil) few (omega arith) (zeros_small (2 ^ n - 1))

-- ---- entry by entry
pub zeros_more : (i : ℕ) (xs ys : List Omega) → 1 ≤ i → xs ≡ one ∷ replicate (i - 1) nil → ys ≡ xs ++ nil ∷ [] → ys ≡ one ∷ replicate (i + 1 - 1) nil
zeros_more i xs ys l h p =
    let e : i - 1 + 1 ≡ i + 1 - 1 = omega arith in
    p ∙ ap (λ zs. zs ++ nil ∷ []) h ∙ ap (λ zs. one ∷ zs) (replicate_more (i - 1) nil) ∙ ap (λ k. one ∷ replicate k nil) e

pub zeros_are : (n i : ℕ) (xs : List Omega) → i ≡ 2 ^ n → xs ≡ one ∷ replicate (i - 1) nil → unhalved n xs ≡ zero_state n
unfolding zero_state
zeros_are n i xs e h = ap (unhalved n) (h ∙ ap (λ k. one ∷ replicate (k - 1) nil) e)
