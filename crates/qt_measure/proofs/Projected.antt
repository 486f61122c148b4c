-- Projections entry by entry: which entries are kept, when nothing is left, which numbers divide all that is, and what is left over the
-- least power of two.
use Rattle.std.proofs.Common.{◌≡◌, ℕ, zero, suc, ◌+◌, ◌-◌, ◌^◌, ◌<◌, ◌≤◌, Bool, true, false, ◌&&◌, List, [], ◌∷◌, ◌++◌, length, take, get_or, below_more, refl, sym, ap, ◌∙◌, subst, arith, inl, inr}
use Rattle.std.specs.Prelude.{◌⊎◌}
use Rattle.std.specs.Int.{bit_at}
use Rattle.std.proofs.lemmas.List.{length-map, map_push, take_more, take_all}
use Rattle.std.proofs.lemmas.List.Elements.{All-push, All-same}
use mathlib.Core.Bool.{beq}
use Rattle.qt_ring.specs.declared.omega.Omega.{Omega}
use Rattle.qt_ring.specs.Division.{Divides}
use Rattle.qt_ring.specs.Matrix.{kept}
use Rattle.qt_ring.specs.Multiples.{scaled, DividesAll, IsLeast, IsReduced}
use Rattle.qt_ring.specs.Places.{is_one, equal_bits}
use Rattle.qt_ring.specs.Ring.{nil, is_nil, times, two_to}
use Rattle.qt_ring.specs.State.{State, project, all_nil, vanishes}
use Rattle.qt_ring.proofs.RingLaws.{times-nil, is_nil_true, is_nil-nil, and_left, and_right}
use Rattle.qt_ring.proofs.States.{project_at}
use Rattle.qt_ring.proofs.Totals.{length-project}
use Rattle.qt_vector.specs.States.{IsSmall, AreSmall, IsVector}
use Rattle.qt_measure.proofs.Doubling.{one_divides, divides-nil, divides_fewer, times_add}

-- ---- entries that an outcome keeps, and those that it drops
same_bits : (b o : Bool) → beq b o ≡ true → equal_bits b o ≡ true
same_bits true true e = refl
same_bits false false e = refl
same_bits true false e = absurd (cc)
same_bits false true e = absurd (cc)

other_bits : (b o : Bool) → beq b o ≡ false → equal_bits b o ≡ false
other_bits true true e = absurd (cc)
other_bits false false e = absurd (cc)
other_bits true false e = refl
other_bits false true e = refl

pub kept_at : (q : ℕ) (o : Bool) (s : State) (i : ℕ) (b : Bool) → q < s.qubits → i < 2 ^ s.qubits → b ≡ is_one (bit_at i q) → beq b o ≡ true → get_or (project q o s).entries i nil ≡ get_or s.entries i nil
kept_at q o s i b h l e f = project_at q o s i h l ∙ ap (λ t. kept t (get_or s.entries i nil)) (ap (λ t. equal_bits t o) (sym e) ∙ same_bits b o f)

pub dropped_at : (q : ℕ) (o : Bool) (s : State) (i : ℕ) (b : Bool) → q < s.qubits → i < 2 ^ s.qubits → b ≡ is_one (bit_at i q) → beq b o ≡ false → get_or (project q o s).entries i nil ≡ nil
dropped_at q o s i b h l e f = project_at q o s i h l ∙ ap (λ t. kept t (get_or s.entries i nil)) (ap (λ t. equal_bits t o) (sym e) ∙ other_bits b o f)

-- the same, as the code reads entries
pub kept_read : (q : ℕ) (o : Bool) (s : State) (es : List Omega) (i : ℕ) (b : Bool) → q < s.qubits → IsVector s → es ≡ s.entries → i < length es → b ≡ is_one (bit_at i q) → beq b o ≡ true → get_or (project q o s).entries i nil ≡ get_or es i nil
kept_read q o s es i b h v e l f g =
    let n = v.all_entries in
    let m : length es ≡ length s.entries = ap length e in
    kept_at q o s i b h (omega arith) f g ∙ ap (λ xs. get_or xs i nil) (sym e)

pub dropped_read : (q : ℕ) (o : Bool) (s : State) (es : List Omega) (i : ℕ) (b : Bool) → q < s.qubits → IsVector s → es ≡ s.entries → i < length es → b ≡ is_one (bit_at i q) → beq b o ≡ false → get_or (project q o s).entries i nil ≡ nil
dropped_read q o s es i b h v e l f g =
    let n = v.all_entries in
    let m : length es ≡ length s.entries = ap length e in
    dropped_at q o s i b h (omega arith) f g

pub length_read : (q : ℕ) (o : Bool) (s : State) (es : List Omega) → IsVector s → es ≡ s.entries → length (project q o s).entries ≡ length es
length_read q o s es v e = length-project q o s ∙ sym v.all_entries ∙ sym (ap length e)

-- ---- when nothing is left
all_nil_at : (es : List Omega) (i : ℕ) → all_nil es ≡ true → get_or es i nil ≡ nil
all_nil_at [] i h = refl
all_nil_at (e ∷ es) zero h = is_nil_true e (and_left (is_nil e) (all_nil es) h)
all_nil_at (e ∷ es) (suc i) h = all_nil_at es i (and_right (is_nil e) (all_nil es) h)

both_true : (a b : Bool) → a ≡ true → b ≡ true → (a && b) ≡ true
both_true true b e f = f
both_true false b e f = absurd (cc)

all_nil_from : (es : List Omega) → ((i : ℕ) → i < length es → get_or es i nil ≡ nil) → all_nil es ≡ true
all_nil_from [] h = refl
all_nil_from (e ∷ es) h = both_true (is_nil e) (all_nil es) (ap is_nil (h 0 (omega arith)) ∙ is_nil-nil) (all_nil_from es (λ i l. h (suc i) (omega arith)))

pub vanishes_from : (p : State) (n : ℕ) → length p.entries ≤ n → ((i : ℕ) → i < n → get_or p.entries i nil ≡ nil) → true ≡ vanishes p
unfolding vanishes
vanishes_from p n l h = sym (all_nil_from p.entries (λ i m. h i (omega arith)))

false_by : (b : Bool) → (b ≡ true → ⊥) → false ≡ b
false_by true h = absurd (h refl)
false_by false h = refl

pub not_vanishing : (p : State) (i : ℕ) (x : Omega) → get_or p.entries i nil ≡ x → is_nil x ≡ false → false ≡ vanishes p
unfolding vanishes
not_vanishing p i x e f = false_by (all_nil p.entries) (λ h.
    let z : is_nil x ≡ true = ap is_nil (sym e ∙ all_nil_at p.entries i h) ∙ is_nil-nil in
    absurd (cc))

-- ---- what divides all entries
scaled_at : (d : Omega) (w : List Omega) (i : ℕ) → get_or (scaled d w) i nil ≡ times d (get_or w i nil)
scaled_at d [] i = sym (times-nil d)
scaled_at d (x ∷ w) zero = refl
scaled_at d (x ∷ w) (suc i) = scaled_at d w i

pub divides_at : (d : Omega) (es : List Omega) (i : ℕ) → DividesAll d es → Divides d (get_or es i nil)
divides_at d es i (w, e) = (get_or w i nil, sym (scaled_at d w i) ∙ ap (λ v. get_or v i nil) e)

quotients : (d : Omega) (e : Omega) (es : List Omega) → Divides d e → DividesAll d es → DividesAll d (e ∷ es)
quotients d e es (y, f) (w, g) = (y ∷ w, ap (λ t. t ∷ scaled d w) f ∙ ap (λ t. e ∷ t) g)

pub divides_all : (d : Omega) (es : List Omega) → ((i : ℕ) → i < length es → Divides d (get_or es i nil)) → DividesAll d es
divides_all d [] h = ([], refl)
divides_all d (e ∷ es) h = quotients d e es (h 0 (omega arith)) (divides_all d es (λ i l. h (suc i) (omega arith)))

pub one_divides_all : (es : List Omega) → DividesAll (two_to 0) es
one_divides_all es = divides_all (two_to 0) es (λ i l. one_divides (get_or es i nil))

-- how often the entries below an index can be halved, at most k times
pub record Common (k : ℕ) (es : List Omega) (i by : ℕ) : Type 0 where
  pub few : by ≤ k
  pub whole : (j : ℕ) → j < i → Divides (two_to by) (get_or es j nil)
  pub greatest : (by ≡ k) ⊎ ((j : ℕ) × (Divides (two_to (by + 1)) (get_or es j nil) → ⊥))

pub common_begins : (k by : ℕ) (es : List Omega) → by ≡ k → Common k es 0 by
common_begins k by es e = record { few = omega arith; whole = λ j h. absurd (omega arith); greatest = inl e }

-- an entry that is 0
pub common_dropped : (k : ℕ) (es : List Omega) (i by : ℕ) → get_or es i nil ≡ nil → Common k es i by → Common k es (i + 1) by
common_dropped k es i by e r = record {
  few = r.few;
  whole = below_more (λ j. Divides (two_to by) (get_or es j nil)) i r.whole (subst (Divides (two_to by)) (sym e) (divides-nil (two_to by)));
  greatest = r.greatest;
}

-- an entry that can be halved so often, and no oftener
pub common_kept : (k : ℕ) (es : List Omega) (i by most : ℕ) → by ≤ most → Divides (two_to by) (get_or es i nil) → (by ≡ most) ⊎ (Divides (two_to (by + 1)) (get_or es i nil) → ⊥) → Common k es i most → Common k es (i + 1) by
common_kept k es i by most l d g r = record {
  few = (let f = r.few in omega arith);
  whole = below_more (λ j. Divides (two_to by) (get_or es j nil)) i (λ j h. divides_fewer by most (get_or es j nil) l (r.whole j h)) d;
  greatest = elim g [
    | inl e ↦ subst (λ (n : ℕ). (n ≡ k) ⊎ ((j : ℕ) × (Divides (two_to (n + 1)) (get_or es j nil) → ⊥))) (sym e) r.greatest
    | inr n ↦ inr (i, n)
  ];
}

-- how often all entries can be halved, at most k times
pub record IsGreatest (k : ℕ) (es : List Omega) (by : ℕ) : Type 0 where
  pub few : by ≤ k
  pub greatest : (by ≡ k) ⊎ (DividesAll (two_to (by + 1)) es → ⊥)

pub common_greatest : (k : ℕ) (es : List Omega) (i by : ℕ) → Common k es i by → (by ≡ k) ⊎ (DividesAll (two_to (by + 1)) es → ⊥)
common_greatest k es i by r = elim r.greatest [
  | inl e ↦ inl e
  | inr (j, n) ↦ inr (λ d. n (divides_at (two_to (by + 1)) es j d))
]

pub common_none : (k : ℕ) (es : List Omega) (i by : ℕ) → by ≡ 0 → Common k es i by → (0 ≡ k) ⊎ (DividesAll (two_to 1) es → ⊥)
common_none k es i by e r = let P : ℕ → Type 0 = λ n. (n ≡ k) ⊎ (DividesAll (two_to (n + 1)) es → ⊥) in subst P e (common_greatest k es i by r)

pub common_whole : (k : ℕ) (es : List Omega) (i by : ℕ) → length es ≤ i → Common k es i by → DividesAll (two_to by) es
common_whole k es i by l r = divides_all (two_to by) es (λ j h. r.whole j (omega arith))

-- ---- the list of what is left, entry by entry
pub halved_more : (d : Omega) (es xs ys : List Omega) (i : ℕ) (x : Omega) → i < length es → scaled d xs ≡ take i es → times d x ≡ get_or es i nil → ys ≡ xs ++ x ∷ [] → scaled d ys ≡ take (i + 1) es
halved_more d es xs ys i x l e f g =
    ap (scaled d) g ∙ map_push (times d) xs x ∙ ap (λ zs. zs ++ times d x ∷ []) e ∙ ap (λ z. take i es ++ z ∷ []) f ∙ sym (take_more es i nil l)

pub small_more : (xs ys : List Omega) (x : Omega) → AreSmall xs → IsSmall x → ys ≡ xs ++ x ∷ [] → AreSmall ys
small_more xs ys x w v g = All-same IsSmall ys (xs ++ x ∷ []) g (All-push IsSmall xs x w v)

pub all_halved : (d : Omega) (es xs : List Omega) (i : ℕ) → length es ≤ i → scaled d xs ≡ take i es → scaled d xs ≡ es
all_halved d es xs i l e = e ∙ take_all i es l

-- what one entry is to become
pub record IsHalved (d e x : Omega) : Type 0 where
  pub value : times d x ≡ e
  pub small : IsSmall x

pub nil_halved : (d e x : Omega) → e ≡ nil → x ≡ nil → IsHalved d e x
unfolding nil
nil_halved d e x f g = record {
  value = ap (times d) g ∙ times-nil d ∙ sym f;
  small = subst IsSmall (sym g) (record { c0_in = omega arith; c1_in = omega arith; c2_in = omega arith; c3_in = omega arith });
}

-- ---- what is left, over the least power of two
scaled_add : (m n : ℕ) (w : List Omega) → scaled (two_to m) (scaled (two_to n) w) ≡ scaled (two_to (m + n)) w
scaled_add m n [] = refl
scaled_add m n (x ∷ w) = ap (λ t. t ∷ scaled (two_to m) (scaled (two_to n) w)) (times_add m n x) ∙ ap (λ t. times (two_to (m + n)) x ∷ t) (scaled_add m n w)

abbrev left_over : ℕ → List Omega → ℕ → State
left_over n es k = record { qubits = n; entries = es; halvings = k }

none_left : (k by : ℕ) → by ≡ k → k - by ≡ 0
none_left k by e = omega arith

left_least : (n k by : ℕ) (es p : List Omega) → scaled (two_to by) es ≡ p → IsGreatest k p by → IsLeast (left_over n es (k - by))
left_least n k by es p e g = elim g.greatest [
  | inl f ↦ inl (none_left k by f)
  | inr f ↦ inr (λ d. f (d.0, sym (scaled_add by 1 d.0) ∙ ap (scaled (two_to by)) d.1 ∙ e))
]

left_reduced : (q : ℕ) (o : Bool) (s : State) (by : ℕ) (es : List Omega) → scaled (two_to by) es ≡ (project q o s).entries → IsGreatest s.halvings (project q o s).entries by → IsReduced (project q o s) (left_over s.qubits es (s.halvings - by))
unfolding project
left_reduced q o s by es e g = record {
  same_qubits = refl;
  by = by;
  exponent = (let f = g.few in omega arith);
  same_entries = e;
  least = left_least s.qubits s.halvings by es (project q o s).entries e g;
}

left_vector : (q : ℕ) (o : Bool) (s : State) (by : ℕ) (es : List Omega) → IsVector s → AreSmall es → scaled (two_to by) es ≡ (project q o s).entries → IsGreatest s.halvings (project q o s).entries by → IsVector (left_over s.qubits es (s.halvings - by))
left_vector q o s by es v w e g =
    let f = v.bounded.few_halvings in
    record {
      few_qubits = v.few_qubits;
      all_entries = sym (length-map es (times (two_to by))) ∙ ap length e ∙ length-project q o s;
      bounded = record { few_halvings = omega arith; small_entries = w };
      least = left_least s.qubits s.halvings by es (project q o s).entries e g;
    }

left_same : (n m k h by : ℕ) (es : List Omega) → n ≡ m → k ≡ h → left_over m es (h - by) ≡ left_over n es (k - by)
left_same n m k h by es e f = ap (λ t. left_over t es (h - by)) (sym e) ∙ ap (λ t. left_over n es (t - by)) (sym f)

-- what is left is a state that a vector may hold, and the projection over its least power of two
pub half_made : (q : ℕ) (o : Bool) (s : State) (by : ℕ) (es : List Omega) (n k : ℕ) → n ≡ s.qubits → k ≡ s.halvings → IsVector s → AreSmall es → scaled (two_to by) es ≡ (project q o s).entries → IsGreatest s.halvings (project q o s).entries by → IsVector (left_over n es (k - by)) × IsReduced (project q o s) (left_over n es (k - by))
half_made q o s by es n k a b v w e g =
    let c : left_over s.qubits es (s.halvings - by) ≡ left_over n es (k - by) = left_same n s.qubits k s.halvings by es a b in
    (subst IsVector c (left_vector q o s by es v w e g), subst (IsReduced (project q o s)) c (left_reduced q o s by es e g))
