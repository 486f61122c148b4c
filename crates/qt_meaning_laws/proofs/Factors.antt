-- A factor other than 0 goes with all that programs do to states, and so goes through programs.
use Rattle.std.proofs.Common.{◌≡◌, ℕ, zero, suc, ◌^◌, Bool, true, false, ◌&&◌, List, [], ◌∷◌, map, slice_index_or, refl, sym, ap, ◌∙◌}
use Rattle.std.specs.List.{range_with_len}
use Rattle.qt_ring.specs.declared.omega.Omega.{Omega}
use Rattle.qt_ring.specs.Ring.{nil, times, is_nil}
use Rattle.qt_ring.specs.Places.{at, equal_bits, bits_of, number}
use Rattle.qt_ring.specs.Matrix.{Operator, kept, embedded}
use Rattle.qt_ring.specs.State.{State, dot, applied, project, flip, turned, all_nil, vanishes}
use Rattle.qt_ring.specs.Multiples.{scaled}
use Rattle.qt_ring.proofs.RingLaws.{times-nil, times-plus, times_front, plus_both, is_nil_true, is_nil-nil}
use Rattle.qt_ring.proofs.Units.{no_zero_divisors}
use Rattle.qt_typed.specs.declared.program.Typed.{Typed}
use Rattle.qt_meaning.specs.Laws.{state_times, FactorsGoThrough}
use Rattle.qt_meaning_laws.specs.Maps.{GoesWithStates}
use Rattle.qt_meaning_laws.proofs.Maps.{maps_go_through}

-- ---- lists

dot_scaled : (c : Omega) (row : ℕ → Omega) (j : ℕ) (es : List Omega) → dot row j (scaled c es) ≡ times c (dot row j es)
dot_scaled c row j [] = sym (times-nil c)
dot_scaled c row j (e ∷ es) =
    plus_both _ _ _ _ (times_front (row j) c e) (dot_scaled c row (suc j) es) ∙ sym (times-plus c (times (row j) e) (dot row (suc j) es))

each_scaled : (c : Omega) (f g : ℕ → Omega) → ((i : ℕ) → f i ≡ times c (g i)) → (is : List ℕ) → map f is ≡ scaled c (map g is)
each_scaled c f g h [] = refl
each_scaled c f g h (i ∷ is) = ap (λ x. x ∷ map f is) (h i) ∙ ap (λ xs. times c (g i) ∷ xs) (each_scaled c f g h is)

index_scaled : (c : Omega) (es : List Omega) (i : ℕ) → slice_index_or (scaled c es) i nil ≡ times c (slice_index_or es i nil)
index_scaled c [] i = sym (times-nil c)
index_scaled c (e ∷ es) zero = refl
index_scaled c (e ∷ es) (suc i) = index_scaled c es i

kept_scaled : (c : Omega) (b : Bool) (x : Omega) → kept b (times c x) ≡ times c (kept b x)
kept_scaled c true x = refl
kept_scaled c false x = sym (times-nil c)

-- ---- gates, projections, flips

applied_scaled : (c : Omega) (g : Operator) (qs : List ℕ) (s : State) → applied g qs (state_times c s) ≡ state_times c (applied g qs s)
unfolding applied
applied_scaled c g qs s =
    let row = λ (i j : ℕ). embedded g.entries qs (bits_of s.qubits i) (bits_of s.qubits j) in
    ap (λ es. record (applied g qs s) { entries = es })
    (each_scaled c (λ i. dot (row i) 0 (scaled c s.entries)) (λ i. dot (row i) 0 s.entries) (λ i. dot_scaled c (row i) 0 s.entries) (range_with_len 0 (2 ^ s.qubits)))

project_scaled : (c : Omega) (q : ℕ) (b : Bool) (s : State) → project q b (state_times c s) ≡ state_times c (project q b s)
unfolding project
project_scaled c q b s =
    let holds = λ (i : ℕ). equal_bits (at q (bits_of s.qubits i)) b in
    ap (λ es. record s { entries = es })
    (each_scaled c (λ i. kept (holds i) (slice_index_or (scaled c s.entries) i nil)) (λ i. kept (holds i) (slice_index_or s.entries i nil))
    (λ i. ap (kept (holds i)) (index_scaled c s.entries i) ∙ kept_scaled c (holds i) (slice_index_or s.entries i nil)) (range_with_len 0 (2 ^ s.qubits)))

flip_scaled : (c : Omega) (q : ℕ) (s : State) → flip q (state_times c s) ≡ state_times c (flip q s)
unfolding flip
flip_scaled c q s =
    let place = λ (i : ℕ). number (turned q (bits_of s.qubits i)) in
    ap (λ es. record s { entries = es })
    (each_scaled c (λ i. slice_index_or (scaled c s.entries) (place i) nil) (λ i. slice_index_or s.entries (place i) nil)
    (λ i. index_scaled c s.entries (place i)) (range_with_len 0 (2 ^ s.qubits)))

-- ---- the test for 0

is_nil-times : (c x : Omega) → (c ≡ nil → ⊥) → is_nil (times c x) ≡ is_nil x
is_nil-times c x n = by (is_nil x) refl (is_nil (times c x)) refl
  where
    by : (b : Bool) → is_nil x ≡ b → (d : Bool) → is_nil (times c x) ≡ d → is_nil (times c x) ≡ is_nil x
    by true e true f = f ∙ sym e
    by true e false f = ap (λ t. is_nil (times c t)) (is_nil_true x e) ∙ ap is_nil (times-nil c) ∙ is_nil-nil ∙ sym e
    by false e true f =
        let z : is_nil x ≡ true = ap is_nil (no_zero_divisors c x (is_nil_true (times c x) f) n) ∙ is_nil-nil in
        f ∙ sym z
    by false e false f = f ∙ sym e

all_nil_scaled : (c : Omega) → (c ≡ nil → ⊥) → (es : List Omega) → all_nil (scaled c es) ≡ all_nil es
all_nil_scaled c n [] = refl
all_nil_scaled c n (e ∷ es) = ap (λ b. b && all_nil (scaled c es)) (is_nil-times c e n) ∙ ap (λ b. is_nil e && b) (all_nil_scaled c n es)

vanishes_scaled : (c : Omega) → (c ≡ nil → ⊥) → (s : State) → vanishes (state_times c s) ≡ vanishes s
unfolding vanishes
vanishes_scaled c n s = all_nil_scaled c n s.entries

-- ---- programs

pub factor_goes : (c : Omega) → (c ≡ nil → ⊥) → GoesWithStates (state_times c)
factor_goes c n = record { gates = applied_scaled c; projections = project_scaled c; flips = flip_scaled c; zeros = vanishes_scaled c n }

pub factors_go_through : (typed : Typed) → FactorsGoThrough typed
factors_go_through typed = λ c n. maps_go_through typed (state_times c) (factor_goes c n)
