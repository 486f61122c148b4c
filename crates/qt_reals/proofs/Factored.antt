-- Gates, projections and flips of a state whose entries are all multiplied by one number, over more halvings: the same with that state's.
use Rattle.std.proofs.Common.{
  ◌≡◌,
  ◌≢◌,
  ℕ,
  zero,
  suc,
  ◌+◌,
  ◌^◌,
  Bool,
  true,
  false,
  ◌&&◌,
  List,
  [],
  ◌∷◌,
  map,
  slice_index_or,
  refl,
  sym,
  ap,
  ◌∙◌,
  arith,
}
use Rattle.std.specs.List.{range_with_len}
use Rattle.qt_ring.specs.declared.omega.Omega.{Omega}
use Rattle.qt_ring.specs.Ring.{nil, times, is_nil}
use Rattle.qt_ring.specs.Places.{at, equal_bits, bits_of, number}
use Rattle.qt_ring.specs.Matrix.{Operator, kept, embedded}
use Rattle.qt_ring.specs.State.{State, dot, applied, project, flip, turned, all_nil, vanishes}
use Rattle.qt_ring.proofs.RingLaws.{nil-times, times-nil, times-plus, times_front, plus_both, is_nil_true, is_nil-nil}
use Rattle.qt_ring.proofs.Units.{no_zero_divisors}
use Rattle.qt_reals.specs.Norm.{scaled_entries, factored}

-- ---- lists

dot_scaled : (row : ℕ → Omega) (c : Omega) (j : ℕ) (es : List Omega) → dot row j (scaled_entries c es) ≡ times c (dot row j es)
dot_scaled row c j [] = sym (times-nil c)
dot_scaled row c j (e ∷ es) =
    plus_both _ _ _ _ (times_front (row j) c e) (dot_scaled row c (suc j) es) ∙ sym (times-plus c (times (row j) e) (dot row (suc j) es))

each_scaled : (c : Omega) (f g : ℕ → Omega) → ((i : ℕ) → f i ≡ times c (g i)) → (is : List ℕ) → map f is ≡ scaled_entries c (map g is)
each_scaled c f g h [] = refl
each_scaled c f g h (i ∷ is) = ap (λ x. x ∷ map f is) (h i) ∙ ap (λ xs. times c (g i) ∷ xs) (each_scaled c f g h is)

index_scaled : (c : Omega) (es : List Omega) (i : ℕ) → slice_index_or (scaled_entries c es) i nil ≡ times c (slice_index_or es i nil)
index_scaled c [] i = sym (times-nil c)
index_scaled c (e ∷ es) zero = refl
index_scaled c (e ∷ es) (suc i) = index_scaled c es i

kept_scaled : (c : Omega) (b : Bool) (x : Omega) → kept b (times c x) ≡ times c (kept b x)
kept_scaled c true x = refl
kept_scaled c false x = sym (times-nil c)

state_same : (n k m : ℕ) (es fs : List Omega) → es ≡ fs → k ≡ m
    → (let s : State = record { qubits = n; entries = es; halvings = k } in let t : State = record { qubits = n; entries = fs; halvings = m } in s ≡ t)
state_same n k m es fs e f = cc

-- ---- gates, projections, flips

pub applied_factored : (g : Operator) (qs : List ℕ) (c : Omega) (h : ℕ) (s : State) → applied g qs (factored c h s) ≡ factored c h (applied g qs s)
unfolding applied
applied_factored g qs c h s =
    let n = s.qubits in
    let row = λ (i j : ℕ). embedded g.entries qs (bits_of n i) (bits_of n j) in
    state_same n (h + s.halvings + g.halvings) (h + (s.halvings + g.halvings)) _ _
    (each_scaled c (λ i. dot (row i) 0 (scaled_entries c s.entries)) (λ i. dot (row i) 0 s.entries) (λ i. dot_scaled (row i) c 0 s.entries) (range_with_len 0 (2 ^ n)))
    (omega arith)

pub project_factored : (q : ℕ) (b : Bool) (c : Omega) (h : ℕ) (s : State) → project q b (factored c h s) ≡ factored c h (project q b s)
unfolding project
project_factored q b c h s =
    let n = s.qubits in
    let in_half = λ (i : ℕ). equal_bits (at q (bits_of n i)) b in
    state_same n (h + s.halvings) (h + s.halvings) _ _
    (each_scaled c (λ i. kept (in_half i) (slice_index_or (scaled_entries c s.entries) i nil)) (λ i. kept (in_half i) (slice_index_or s.entries i nil))
    (λ i. ap (kept (in_half i)) (index_scaled c s.entries i) ∙ kept_scaled c (in_half i) (slice_index_or s.entries i nil)) (range_with_len 0 (2 ^ n)))
    refl

pub flip_factored : (q : ℕ) (c : Omega) (h : ℕ) (s : State) → flip q (factored c h s) ≡ factored c h (flip q s)
unfolding flip
flip_factored q c h s =
    let n = s.qubits in
    let place = λ (i : ℕ). number (turned q (bits_of n i)) in
    state_same n (h + s.halvings) (h + s.halvings) _ _
    (each_scaled c (λ i. slice_index_or (scaled_entries c s.entries) (place i) nil) (λ i. slice_index_or s.entries (place i) nil)
    (λ i. index_scaled c s.entries (place i)) (range_with_len 0 (2 ^ n)))
    refl

-- ---- the test for 0

is_nil_times : (c x : Omega) → c ≢ nil → is_nil (times c x) ≡ is_nil x
is_nil_times c x n = step (is_nil x) refl (is_nil (times c x)) refl
  where
    step : (b : Bool) → is_nil x ≡ b → (d : Bool) → is_nil (times c x) ≡ d → d ≡ b
    step true e true f = refl
    step true e false f =
        let z : is_nil (times c x) ≡ true = ap (λ t. is_nil (times c t)) (is_nil_true x e) ∙ ap is_nil (times-nil c) ∙ is_nil-nil in
        sym f ∙ z
    step false e true f =
        let z : is_nil x ≡ true = ap is_nil (no_zero_divisors c x (is_nil_true (times c x) f) n) ∙ is_nil-nil in
        sym z ∙ e
    step false e false f = refl

all_nil_scaled : (c : Omega) → c ≢ nil → (es : List Omega) → all_nil (scaled_entries c es) ≡ all_nil es
all_nil_scaled c n [] = refl
all_nil_scaled c n (e ∷ es) = ap (λ b. b && all_nil (scaled_entries c es)) (is_nil_times c e n) ∙ ap (λ b. is_nil e && b) (all_nil_scaled c n es)

pub vanishes_factored : (c : Omega) (h : ℕ) (s : State) → c ≢ nil → vanishes (factored c h s) ≡ vanishes s
unfolding vanishes
vanishes_factored c h s n = all_nil_scaled c n s.entries

-- a state is its entries with the factor c taken out, and no halvings, times c over its halvings
pub factor_taken : (c : Omega) (u : List Omega) (s : State) → scaled_entries c u ≡ s.entries
    → factored c s.halvings (record s { entries = u; halvings = 0 }) ≡ s
factor_taken c u s e = state_same s.qubits (s.halvings + 0) s.halvings (scaled_entries c u) s.entries e (omega arith)

-- a factor of a state that isn't 0 isn't 0
pub factor_not_nil : (c : Omega) (u : List Omega) (s : State) → scaled_entries c u ≡ s.entries → vanishes s ≡ false → c ≢ nil
unfolding vanishes
factor_not_nil c u s e v n =
    let z : all_nil s.entries ≡ true = ap all_nil (sym e) ∙ ap (λ d. all_nil (scaled_entries d u)) n ∙ nothing u in
    let d : true ≡ false = sym z ∙ v in
    cc
  where
    nothing : (es : List Omega) → all_nil (scaled_entries nil es) ≡ true
    nothing [] = refl
    nothing (x ∷ xs) = ap (λ b. b && all_nil (scaled_entries nil xs)) (ap is_nil (nil-times x) ∙ is_nil-nil) ∙ nothing xs
