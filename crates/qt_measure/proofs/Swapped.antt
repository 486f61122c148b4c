-- A flip pair by pair: each entry whose basis state has the qubit in 0 changes its place with its twin.
use Rattle.std.proofs.Common.{◌≡◌, ◌≢◌, ℕ, zero, suc, ◌+◌, ◌-◌, ◌^◌, ◌<◌, ◌≤◌, true, false, List, length, get_or, refl, sym, ap, ◌∙◌, subst, arith, inl, inr}
use Rattle.std.specs.Prelude.{◌⊎◌}
use Rattle.std.specs.Int.{bit_at}
use Rattle.std.specs.List.{swap}
use Rattle.std.proofs.lemmas.Bool.{cases_eq}
use Rattle.std.proofs.lemmas.Grind.{common_steps}
use Rattle.std.proofs.lemmas.List.{ext_get_or}
use Rattle.std.proofs.lemmas.List.Edits.{swap_is}
use Rattle.std.proofs.lemmas.List.Elements.{All-get_or, All-from_get_or}
use Rattle.std.proofs.lemmas.Nat.Bits.{bit_at-lt}
use Rattle.qt_ring.specs.declared.omega.Omega.{Omega}
use Rattle.qt_ring.specs.Division.{Divides}
use Rattle.qt_ring.specs.Multiples.{DividesAll}
use Rattle.qt_ring.specs.Places.{is_one}
use Rattle.qt_ring.specs.Ring.{nil, two_to}
use Rattle.qt_ring.specs.State.{State, flip}
use Rattle.qt_ring.proofs.Gates.{by_bit, choose_zero, choose_one}
use Rattle.qt_ring.proofs.States.{flip_at, flip_has_all}
use Rattle.qt_ring.proofs.Twins.{up_lt, bit_up, down_le, bit_down}
use Rattle.qt_vector.specs.States.{IsSmall, AreSmall, IsVector}
use Rattle.qt_measure.proofs.Projected.{divides_at, divides_all}

-- ---- where the loop stands at an index: pairs below it are swapped, the others aren't
pub record Swapping (n q : ℕ) (old new : List Omega) (i : ℕ) : Type 0 where
  pub done : (j : ℕ) → j < 2 ^ n → bit_at j q ≡ 0 → j < i → (get_or new j nil ≡ get_or old (j + 2 ^ q) nil) × (get_or new (j + 2 ^ q) nil ≡ get_or old j nil)
  pub left : (j : ℕ) → j < 2 ^ n → bit_at j q ≡ 0 → i ≤ j → (get_or new j nil ≡ get_or old j nil) × (get_or new (j + 2 ^ q) nil ≡ get_or old (j + 2 ^ q) nil)

pub swapping_begins : (n q : ℕ) (old : List Omega) → Swapping n q old old 0
swapping_begins n q old = record { done = λ j l b h. absurd (omega arith); left = λ j l b h. (refl, refl) }

-- an index whose bit is 1 is passed over
pub passed : (n q : ℕ) (old new : List Omega) (i : ℕ) → bit_at i q ≢ 0 → Swapping n q old new i → Swapping n q old new (i + 1)
passed n q old new i e r = record {
  done = λ j l b h. let d : j ≢ i = (λ f. e (ap (λ k. bit_at k q) (sym f) ∙ b)) in r.done j l b (omega arith);
  left = λ j l b h. r.left j l b (omega arith);
}

-- ---- a swap
first_swapped : (xs : List Omega) (i k : ℕ) → i < length xs → k < length xs → i ≢ k → get_or (swap xs i k) i nil ≡ get_or xs k nil
first_swapped xs i k l m d = ap (λ ys. get_or ys i nil) (sym (swap_is xs i k nil l m)) ∙ grind (arith, common_steps)

second_swapped : (xs : List Omega) (i k : ℕ) → i < length xs → k < length xs → get_or (swap xs i k) k nil ≡ get_or xs i nil
second_swapped xs i k l m = ap (λ ys. get_or ys k nil) (sym (swap_is xs i k nil l m)) ∙ grind (arith, common_steps)

others_kept : (xs : List Omega) (i k j : ℕ) → i < length xs → k < length xs → j ≢ i → j ≢ k → get_or (swap xs i k) j nil ≡ get_or xs j nil
others_kept xs i k j l m d e = ap (λ ys. get_or ys j nil) (sym (swap_is xs i k nil l m)) ∙ grind (arith, common_steps)

other_bit : (q j k : ℕ) → bit_at j q ≡ 0 → bit_at k q ≡ 1 → j ≢ k
other_bit q j k b c e = let f : bit_at j q ≡ bit_at k q = ap (λ t. bit_at t q) e in absurd (omega arith)

pair_kept : (n q : ℕ) (xs : List Omega) (i j : ℕ) → length xs ≡ 2 ^ n → q < n → i < 2 ^ n → j < 2 ^ n → bit_at i q ≡ 0 → bit_at j q ≡ 0 → j ≢ i → (get_or (swap xs i (i + 2 ^ q)) j nil ≡ get_or xs j nil) × (get_or (swap xs i (i + 2 ^ q)) (j + 2 ^ q) nil ≡ get_or xs (j + 2 ^ q) nil)
pair_kept n q xs i j len h l m b c d =
    let u : i + 2 ^ q < 2 ^ n = up_lt n q i l h b in
    let e : j ≢ i + 2 ^ q = other_bit q j (i + 2 ^ q) c (bit_up n q i l h b) in
    let f : i ≢ j + 2 ^ q = other_bit q i (j + 2 ^ q) b (bit_up n q j m h c) in
    let g : j + 2 ^ q ≢ i = (λ t. f (sym t)) in
    let k : j + 2 ^ q ≢ i + 2 ^ q = omega arith in
    (others_kept xs i (i + 2 ^ q) j (omega arith) (omega arith) d e, others_kept xs i (i + 2 ^ q) (j + 2 ^ q) (omega arith) (omega arith) g k)

pair_swapped : (n q : ℕ) (old xs : List Omega) (i : ℕ) → length xs ≡ 2 ^ n → q < n → i < 2 ^ n → bit_at i q ≡ 0 → Swapping n q old xs i → (get_or (swap xs i (i + 2 ^ q)) i nil ≡ get_or old (i + 2 ^ q) nil) × (get_or (swap xs i (i + 2 ^ q)) (i + 2 ^ q) nil ≡ get_or old i nil)
pair_swapped n q old xs i len h l b r =
    let u : i + 2 ^ q < 2 ^ n = up_lt n q i l h b in
    let d : i ≢ i + 2 ^ q = other_bit q i (i + 2 ^ q) b (bit_up n q i l h b) in
    let k = r.left i l b (omega arith) in
    (first_swapped xs i (i + 2 ^ q) (omega arith) (omega arith) d ∙ k.1, second_swapped xs i (i + 2 ^ q) (omega arith) (omega arith) ∙ k.0)

at_pair : (old new : List Omega) (q i j : ℕ) → j ≡ i → (get_or new i nil ≡ get_or old (i + 2 ^ q) nil) × (get_or new (i + 2 ^ q) nil ≡ get_or old i nil) → (get_or new j nil ≡ get_or old (j + 2 ^ q) nil) × (get_or new (j + 2 ^ q) nil ≡ get_or old j nil)
at_pair old new q i j e p = subst (λ (k : ℕ). (get_or new k nil ≡ get_or old (k + 2 ^ q) nil) × (get_or new (k + 2 ^ q) nil ≡ get_or old k nil)) (sym e) p

-- an index whose bit is 0 is swapped with its twin
swapped : (n q : ℕ) (old xs : List Omega) (i : ℕ) → length xs ≡ 2 ^ n → q < n → i < 2 ^ n → bit_at i q ≡ 0 → Swapping n q old xs i → Swapping n q old (swap xs i (i + 2 ^ q)) (i + 1)
swapped n q old xs i len h l b r = record {
  done = λ j m c k. elim (cases_eq j i) [
    | inl e ↦ at_pair old (swap xs i (i + 2 ^ q)) q i j e (pair_swapped n q old xs i len h l b r)
    | inr d ↦ (
        let p = pair_kept n q xs i j len h l m b c d in
        let o = r.done j m c (omega arith) in
        (p.0 ∙ o.0, p.1 ∙ o.1))
  ];
  left = λ j m c k.
      let d : j ≢ i = omega arith in
      let p = pair_kept n q xs i j len h l m b c d in
      let o = r.left j m c (omega arith) in
      (p.0 ∙ o.0, p.1 ∙ o.1);
}

pub swapped_by : (n q : ℕ) (old xs ys : List Omega) (i step : ℕ) → step ≡ 2 ^ q → ys ≡ swap xs i (i + step) → length xs ≡ 2 ^ n → q < n → i < 2 ^ n → bit_at i q ≡ 0 → Swapping n q old xs i → Swapping n q old ys (i + 1)
swapped_by n q old xs ys i step e f len h l b r =
    subst (λ zs. Swapping n q old zs (i + 1)) (sym (f ∙ ap (λ k. swap xs i (i + k)) e)) (swapped n q old xs i len h l b r)

pub zero_bit : (k : ℕ) → is_one k ≡ false → k ≡ 0
zero_bit zero e = refl
zero_bit (suc k) e = absurd (cc)

pub one_bit : (k : ℕ) → is_one k ≡ true → k ≢ 0
one_bit zero e f = absurd (cc)
one_bit (suc k) e f = absurd (omega arith)

-- ---- all pairs are swapped
abbrev pub unhalved : ℕ → List Omega → State
unhalved n es = record { qubits = n; entries = es; halvings = 0 }

low_flipped : (n q : ℕ) (old new : List Omega) (i j : ℕ) → q < n → i ≡ 2 ^ n → j < 2 ^ n → bit_at j q ≡ 0 → Swapping n q old new i → get_or new j nil ≡ get_or (flip q (unhalved n old)).entries j nil
low_flipped n q old new i j h e l b r = (r.done j l b (omega arith)).0 ∙ sym (flip_at q (unhalved n old) j h l ∙ choose_zero j q _ _ b)

high_flipped : (n q : ℕ) (old new : List Omega) (i j : ℕ) → q < n → i ≡ 2 ^ n → j < 2 ^ n → bit_at j q ≡ 1 → Swapping n q old new i → get_or new j nil ≡ get_or (flip q (unhalved n old)).entries j nil
high_flipped n q old new i j h e l b r =
    let w : 2 ^ q ≤ j = down_le n q j l h b in
    let f : j - 2 ^ q + 2 ^ q ≡ j = omega arith in
    ap (λ k. get_or new k nil) (sym f) ∙ (r.done (j - 2 ^ q) (omega arith) (bit_down n q j l h b) (omega arith)).1
    ∙ sym (flip_at q (unhalved n old) j h l ∙ choose_one j q _ _ b)

pub flip_length : (q : ℕ) (s : State) → length (flip q s).entries ≡ 2 ^ s.qubits
unfolding flip
flip_length q s = flip_has_all q s

pub swapping_ends : (n q : ℕ) (old new : List Omega) (i : ℕ) → length new ≡ 2 ^ n → q < n → i ≡ 2 ^ n → Swapping n q old new i → new ≡ (flip q (unhalved n old)).entries
swapping_ends n q old new i len h e r =
    let f = flip_length q (unhalved n old) in
    ext_get_or nil new (flip q (unhalved n old)).entries (len ∙ sym f) (λ j l.
    let m : j < 2 ^ n = omega arith in
    by_bit (bit_at j q) (bit_at-lt j q) (λ b. low_flipped n q old new i j h e m b r) (λ b. high_flipped n q old new i j h e m b r))

-- ---- the flipped state is one that a vector may hold
-- what holds of each entry holds of each entry of the flipped state
each_flipped : (q : ℕ) (s : State) (P : Omega → Type 0) → q < s.qubits → ((i : ℕ) → i < 2 ^ s.qubits → P (get_or s.entries i nil)) → (j : ℕ) → j < 2 ^ s.qubits → P (get_or (flip q s).entries j nil)
each_flipped q s P h f j l = by_bit (bit_at j q) (bit_at-lt j q)
    (λ b. subst P (sym (flip_at q s j h l ∙ choose_zero j q _ _ b)) (f (j + 2 ^ q) (up_lt s.qubits q j l h b)))
    (λ b. subst P (sym (flip_at q s j h l ∙ choose_one j q _ _ b)) (f (j - 2 ^ q) (omega arith)))

-- and back
each_back : (q : ℕ) (s : State) (P : Omega → Type 0) → q < s.qubits → ((i : ℕ) → i < 2 ^ s.qubits → P (get_or (flip q s).entries i nil)) → (j : ℕ) → j < 2 ^ s.qubits → P (get_or s.entries j nil)
each_back q s P h f j l = by_bit (bit_at j q) (bit_at-lt j q)
    (λ b.
    let u : j + 2 ^ q < 2 ^ s.qubits = up_lt s.qubits q j l h b in
    let e : j + 2 ^ q - 2 ^ q ≡ j = omega arith in
    subst P (flip_at q s (j + 2 ^ q) h u ∙ choose_one (j + 2 ^ q) q _ _ (bit_up s.qubits q j l h b) ∙ ap (λ k. get_or s.entries k nil) e) (f (j + 2 ^ q) u))
    (λ b.
    let w : 2 ^ q ≤ j = down_le s.qubits q j l h b in
    let e : j - 2 ^ q + 2 ^ q ≡ j = omega arith in
    let d : j - 2 ^ q < 2 ^ s.qubits = omega arith in
    subst P (flip_at q s (j - 2 ^ q) h d ∙ choose_zero (j - 2 ^ q) q _ _ (bit_down s.qubits q j l h b) ∙ ap (λ k. get_or s.entries k nil) e) (f (j - 2 ^ q) d))

flipped_small : (q : ℕ) (s : State) → q < s.qubits → IsVector s → AreSmall (flip q s).entries
flipped_small q s h v =
    let n = v.all_entries in
    let m = flip_length q s in
    All-from_get_or IsSmall (flip q s).entries nil (λ j l. each_flipped q s IsSmall h (λ i k. All-get_or IsSmall s.entries i nil (omega arith) v.bounded.small_entries) j (omega arith))

divided_back : (q : ℕ) (s : State) → q < s.qubits → IsVector s → DividesAll (two_to 1) (flip q s).entries → DividesAll (two_to 1) s.entries
divided_back q s h v d =
    let n = v.all_entries in
    divides_all (two_to 1) s.entries (λ j l. each_back q s (Divides (two_to 1)) h (λ i k. divides_at (two_to 1) (flip q s).entries i d) j (omega arith))

flipped_least : (q : ℕ) (s : State) → q < s.qubits → IsVector s → (s.halvings ≡ 0) ⊎ (DividesAll (two_to 1) (flip q s).entries → ⊥)
flipped_least q s h v = elim v.least [
  | inl e ↦ inl e
  | inr n ↦ inr (λ d. n (divided_back q s h v d))
]

pub flip_is_vector : (q : ℕ) (s : State) → q < s.qubits → IsVector s → IsVector (flip q s)
unfolding flip
flip_is_vector q s h v = record {
  few_qubits = v.few_qubits;
  all_entries = flip_has_all q s;
  bounded = record { few_halvings = v.bounded.few_halvings; small_entries = flipped_small q s h v };
  least = flipped_least q s h v;
}

-- the flipped state by its parts
pub flip_by_parts : (q : ℕ) (s : State) (es : List Omega) → es ≡ (flip q (unhalved s.qubits s.entries)).entries → (let t : State = record { qubits = s.qubits; entries = es; halvings = s.halvings } in t ≡ flip q s)
unfolding flip
flip_by_parts q s es e = ap (λ (es : List Omega). record { qubits = s.qubits; entries = es; halvings = s.halvings }) e
