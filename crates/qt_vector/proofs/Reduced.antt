-- The power of two that reduces a state is the greatest that divides all entries and is within the halvings: so each state has one
-- reduced state.
use Rattle.std.proofs.Common.{◌≡◌, ◌≢◌, ℕ, zero, suc, ◌+◌, ◌-◌, ◌<◌, ◌≤◌, List, [], ◌∷◌, length, get_or, refl, sym, ap, subst, ◌∙◌, arith, pos}
use mathlib.Core.Logic.{◌⊎◌, inl, inr}
use Rattle.std.proofs.lemmas.Bool.{cases_lt}
use Rattle.std.proofs.lemmas.List.{length-map, get_or-map}
use Rattle.qt_ring.specs.declared.omega.Omega.{Omega}
use Rattle.qt_ring.specs.Ring.{nil, one, plus, times, two_to}
use Rattle.qt_ring.specs.Division.{Divides, IsEven, parity}
use Rattle.qt_ring.specs.State.{State}
use Rattle.qt_ring.specs.Multiples.{scaled, DividesAll, IsReduced}
use Rattle.qt_ring.proofs.RingLaws.{times_assoc, times-one, one-times, times-plus, plus_both}
use Rattle.qt_ring.proofs.Dividing.{times_two, two_multiple, two_divisor}
use Rattle.qt_ring.proofs.Units.{cancelled, no_zero_divisors}

-- ---- powers of two
one_not_nil : one ≡ nil → ⊥
unfolding one nil
one_not_nil e = let z : pos 1 ≡ pos 0 = ap (λ (t : Omega). t.c0) e in absurd (cc)

two_not_nil : two_to 1 ≡ nil → ⊥
unfolding one plus nil
two_not_nil e = let z : pos 2 ≡ pos 0 = ap (λ (t : Omega). t.c0) e in absurd (cc)

pub two_to_not_nil : (t : ℕ) → two_to t ≡ nil → ⊥
two_to_not_nil zero e = one_not_nil e
two_to_not_nil (suc t) e = two_to_not_nil t (no_zero_divisors (two_to 1) (two_to t) (times_two (two_to t) ∙ e) two_not_nil)

pub two_to-plus : (m k : ℕ) → two_to (m + k) ≡ times (two_to m) (two_to k)
two_to-plus m zero = let z : m + 0 ≡ m = omega arith in ap two_to z ∙ sym (times-one (two_to m))
two_to-plus m (suc k) =
    let z : m + suc k ≡ suc (m + k) = omega arith in
    ap two_to z ∙ plus_both _ _ _ _ (two_to-plus m k) (two_to-plus m k) ∙ sym (times-plus (two_to m) (two_to k) (two_to k))

pub times_two_to-plus : (m k : ℕ) (y : Omega) → times (two_to (m + k)) y ≡ times (two_to m) (times (two_to k) y)
times_two_to-plus m k y = ap (λ t. times t y) (two_to-plus m k) ∙ times_assoc (two_to m) (two_to k) y

-- ---- multiples of lists
pub scaled-one : (v : List Omega) → scaled (two_to 0) v ≡ v
scaled-one [] = refl
scaled-one (x ∷ v) = ap (λ y. y ∷ scaled (two_to 0) v) (one-times x) ∙ ap (λ u. x ∷ u) (scaled-one v)

scaled_two_to-plus : (m k : ℕ) (v : List Omega) → scaled (two_to (m + k)) v ≡ scaled (two_to m) (scaled (two_to k) v)
scaled_two_to-plus m k [] = refl
scaled_two_to-plus m k (x ∷ v) =
    ap (λ y. y ∷ scaled (two_to (m + k)) v) (times_two_to-plus m k x)
    ∙ ap (λ u. times (two_to m) (times (two_to k) x) ∷ u) (scaled_two_to-plus m k v)

scaled_cancel : (d : Omega) (v w : List Omega) → (d ≡ nil → ⊥) → scaled d v ≡ scaled d w → v ≡ w
scaled_cancel d [] [] h e = refl
scaled_cancel d [] (y ∷ w) h e = absurd (cc)
scaled_cancel d (x ∷ v) [] h e = absurd (cc)
scaled_cancel d (x ∷ v) (y ∷ w) h e =
    let first : times d x ≡ times d y = cc in
    let rest : scaled d v ≡ scaled d w = cc in
    ap (λ z. z ∷ v) (cancelled d x y h first) ∙ ap (λ u. y ∷ u) (scaled_cancel d v w h rest)

pub divides_each : (d : Omega) (v : List Omega) → DividesAll d v → (i : ℕ) → i < length v → Divides d (get_or v i nil)
divides_each d v (w, e) i l =
    let n : length w ≡ length v = sym (length-map w (times d)) ∙ ap length e in
    (get_or w i nil, sym (get_or-map (times d) w i nil nil (omega arith)) ∙ ap (λ u. get_or u i nil) e)

pub divides_all : (d : Omega) (v : List Omega) → ((i : ℕ) → i < length v → Divides d (get_or v i nil)) → DividesAll d v
divides_all d [] h = ([], refl)
divides_all d (x ∷ v) h =
    let first : Divides d x = h 0 (omega arith) in
    let rest : DividesAll d v = divides_all d v (λ i l. h (suc i) (omega arith)) in
    (first.0 ∷ rest.0, ap (λ y. y ∷ scaled d rest.0) first.1 ∙ ap (λ u. x ∷ u) rest.1)

divides_less : (m k : ℕ) (v : List Omega) → DividesAll (two_to (m + k)) v → DividesAll (two_to m) v
divides_less m k v (w, e) = (scaled (two_to k) w, sym (scaled_two_to-plus m k w) ∙ e)

-- ---- the greatest power of two
pub record IsGreatest (s : State) (by : ℕ) : Type 0 where
  pub room : by ≤ s.halvings
  pub divides : DividesAll (two_to by) s.entries
  pub greatest : (by ≡ s.halvings) ⊎ (DividesAll (two_to (by + 1)) s.entries → ⊥)

none_greater : (s : State) (m k : ℕ) → k < m → IsGreatest s m → IsGreatest s k → ⊥
none_greater s m k l g h = elim h.greatest [
  | inl e ↦ (let r = g.room in absurd (omega arith))
  | inr f ↦ (let z : m ≡ k + 1 + (m - (k + 1)) = omega arith in f (divides_less (k + 1) (m - (k + 1)) s.entries (subst (λ (n : ℕ). DividesAll (two_to n) s.entries) z g.divides)))
]

one_greatest : (s : State) (m k : ℕ) → IsGreatest s m → IsGreatest s k → m ≡ k
one_greatest s m k g h = elim (cases_lt m k) [
  | inl l ↦ absurd (none_greater s k m l h g)
  | inr l ↦ elim (cases_lt k m) [ inl j ↦ absurd (none_greater s m k j g h) | inr j ↦ omega arith ]
]

-- what reduces a state is the greatest
reduced_greatest : (s t : State) (r : IsReduced s t) → IsGreatest s r.by
reduced_greatest s t r = record {
  room = let e = r.exponent in omega arith;
  divides = (t.entries, r.same_entries);
  greatest = elim r.least [
    | inl z ↦ inl (let e = r.exponent in omega arith)
    | inr f ↦ inr (λ (w, e). f (w, scaled_cancel (two_to r.by) (scaled (two_to 1) w) t.entries (two_to_not_nil r.by) (sym (scaled_two_to-plus r.by 1 w) ∙ e ∙ sym r.same_entries)))
  ];
}

pub reduced_by : (s t : State) (by : ℕ) → IsGreatest s by → (r : IsReduced s t) → r.by ≡ by
reduced_by s t by g r = one_greatest s r.by by (reduced_greatest s t r) g

-- and what is taken out by the greatest is reduced
pub reduced_of : (s t : State) (by : ℕ) → IsGreatest s by → t.qubits ≡ s.qubits → t.halvings + by ≡ s.halvings → scaled (two_to by) t.entries ≡ s.entries → IsReduced s t
reduced_of s t by g q h e = record {
  same_qubits = q;
  by = by;
  exponent = h;
  same_entries = e;
  least = elim g.greatest [
    | inl z ↦ inl (omega arith)
    | inr f ↦ inr (λ (w, i). f (w, scaled_two_to-plus by 1 w ∙ ap (scaled (two_to by)) i ∙ e))
  ];
}

-- ---- there is one
same_state : (t u : State) → t.qubits ≡ u.qubits → t.entries ≡ u.entries → t.halvings ≡ u.halvings → t ≡ u
same_state t u q e h =
    ap (λ (n : ℕ). record { qubits = n; entries = t.entries; halvings = t.halvings }) q
    ∙ ap (λ (es : List Omega). record { qubits = u.qubits; entries = es; halvings = t.halvings }) e
    ∙ ap (λ (k : ℕ). record { qubits = u.qubits; entries = u.entries; halvings = k }) h

pub one_reduced : (s t u : State) → IsReduced s t → IsReduced s u → t ≡ u
one_reduced s t u r q =
    let by : r.by ≡ q.by = reduced_by s t q.by (reduced_greatest s u q) r in
    let e = r.exponent in
    let f = q.exponent in
    same_state t u
    (r.same_qubits ∙ sym q.same_qubits)
    (scaled_cancel (two_to q.by) t.entries u.entries (two_to_not_nil q.by) (ap (λ k. scaled (two_to k) t.entries) (sym by) ∙ r.same_entries ∙ sym q.same_entries))
    (omega arith)

same_or_not : (q r : ℕ) → (q ≡ r) ⊎ (q ≢ r)
same_or_not q r = elim (cases_lt q r) [
  | inl l ↦ inr (λ e. omega arith)
  | inr l ↦ elim (cases_lt r q) [ inl j ↦ inr (λ e. omega arith) | inr j ↦ inl (omega arith) ]
]

even_or_not : (x : Omega) → IsEven x ⊎ (IsEven x → ⊥)
even_or_not x = elim (same_or_not (parity x.c0) 0) [
  | inr f ↦ inr (λ e. f e.c0_even)
  | inl a ↦ elim (same_or_not (parity x.c1) 0) [
    | inr f ↦ inr (λ e. f e.c1_even)
    | inl b ↦ elim (same_or_not (parity x.c2) 0) [
      | inr f ↦ inr (λ e. f e.c2_even)
      | inl c ↦ elim (same_or_not (parity x.c3) 0) [
        | inr f ↦ inr (λ e. f e.c3_even)
        | inl d ↦ inl (record { c0_even = a; c1_even = b; c2_even = c; c3_even = d })
      ]
    ]
  ]
]

all_or_not : (v : List Omega) → DividesAll (two_to 1) v ⊎ (DividesAll (two_to 1) v → ⊥)
all_or_not [] = inl ([], refl)
all_or_not (x ∷ v) = elim (even_or_not x) [
  | inr f ↦ inr (λ d. f (two_multiple x (divides_each (two_to 1) (x ∷ v) d 0 (omega arith))))
  | inl e ↦ elim (all_or_not v) [
    | inr f ↦ inr (λ d. f (divides_all (two_to 1) v (λ i l. divides_each (two_to 1) (x ∷ v) d (suc i) (omega arith))))
    | inl d ↦ inl (let y = two_divisor x e in (y.0 ∷ d.0, ap (λ z. z ∷ scaled (two_to 1) d.0) y.1 ∙ ap (λ u. x ∷ u) d.1))
  ]
]

abbrev over : ℕ → ℕ → List Omega → State
over k n v = record { qubits = n; entries = v; halvings = k }

one_halving_more : (k n : ℕ) (v w : List Omega) (t : State) → scaled (two_to 1) w ≡ v → IsReduced (over k n w) t → IsReduced (over (suc k) n v) t
one_halving_more k n v w t e r = record {
  same_qubits = r.same_qubits;
  by = 1 + r.by;
  exponent = let x = r.exponent in omega arith;
  same_entries = scaled_two_to-plus 1 r.by t.entries ∙ ap (scaled (two_to 1)) r.same_entries ∙ e;
  least = r.least;
}

some_over : (k n : ℕ) (v : List Omega) → (t : State) × IsReduced (over k n v) t
some_over zero n v = (over zero n v, record { same_qubits = refl; by = 0; exponent = omega arith; same_entries = scaled-one v; least = inl refl })
some_over (suc k) n v = elim (all_or_not v) [
  | inl d ↦ (let r = some_over k n d.0 in (r.0, one_halving_more k n v d.0 r.0 d.1 r.1))
  | inr f ↦ (over (suc k) n v, record { same_qubits = refl; by = 0; exponent = omega arith; same_entries = scaled-one v; least = inr f })
]

pub some_reduced : (s : State) → (t : State) × IsReduced s t
some_reduced s = some_over s.halvings s.qubits s.entries
