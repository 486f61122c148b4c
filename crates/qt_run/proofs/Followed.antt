-- What follows from a point, statement by statement, and what a tally holds after it.
use Rattle.std.proofs.Common.{◌≡◌, ℕ, suc, ◌+◌, ◌-◌, ◌^◌, ◌<◌, ◌≤◌, Bool, true, false, List, [], ◌∷◌, ◌++◌, length, refl, sym, ap, ◌∙◌, subst, arith, slice_index_or}
use Rattle.std.specs.Prelude.{take, drop}
use Rattle.std.specs.List.{flat_map}
use Rattle.std.proofs.Math.Nat.{pow-suc}
use Rattle.std.proofs.Math.Seq.{take-length}
use Rattle.std.proofs.lemmas.List.Concat.{flat_map-append}
use Rattle.qt_ring.specs.Matrix.{Operator}
use Rattle.qt_ring.specs.State.{State, zero_state, applied, project, vanishes}
use Rattle.qt_ring.specs.Gates.{h_gate, t_gate, x_gate, cx_gate}
use Rattle.qt_root2.specs.declared.mass.Mass.{Mass}
use Rattle.qt_root2.specs.Masses.{real_of_mass}
use Rattle.qt_root2.specs.Real.{Real, plus_real}
use Rattle.qt_root2.proofs.Reals.{plus_real_assoc, plus_real-zero, zero_real-plus}
use Rattle.qt_mass.specs.Mass.{mass}
use Rattle.qt_first.specs.Form.{ArePlaced, IsPlaced, IsWithinLimits, measurements}
use Rattle.qt_first.specs.declared.program.Program.{Program}
use Rattle.qt_first.specs.declared.program.Statement.{Statement}
use Rattle.qt_first.specs.declared.program.Statement.TheVariants.{Hadamard, T, X, ControlledX, Measure}
use Rattle.qt_run.specs.Tree.{Point, IsGate, gate, unless, outcome, stored, statement_run, leaves, leaves_of, root}
use Rattle.qt_run.specs.Distribution.{part, same_values, share}
use Rattle.qt_run.specs.Tally.{Adds, Masses, held, real_number}
use Rattle.qt_run.proofs.Held.{held_is_least}
use Rattle.qt_run.proofs.Shares.{mass_is_least, part_is_least, share-append, share_is_least}
use Rattle.qt_run.proofs.Totals.{applied-qubits, project-qubits, zero_state-qubits}

-- ---- the leaves

leaves-measure : (qubit bit : ℕ) (ss : List Statement) (p : Point)
    → leaves (Measure qubit bit ∷ ss) p ≡ flat_map (leaves ss) (outcome qubit bit false p) ++ flat_map (leaves ss) (outcome qubit bit true p)
leaves-measure qubit bit ss p = flat_map-append (leaves ss) (outcome qubit bit false p) (outcome qubit bit true p)

-- ---- what the tally holds

pub adds_none : (masses : Masses) (points : List Point) → points ≡ [] → Adds masses masses points
adds_none masses points e o = sym (plus_real-zero (held masses o) (held_is_least masses o)) ∙ ap (λ xs. plus_real (held masses o) (share xs o)) (sym e)

adds_one : (old new : Masses) (p : Point) (m : Real) → m ≡ mass p.state → ((o : List ℕ) → held new o ≡ plus_real (held old o) (part (same_values p.slots o) m)) → Adds old new (p ∷ [])
adds_one old new p m e h o =
    h o
    ∙ ap (λ x. plus_real (held old o) (part (same_values p.slots o) x)) e
    ∙ ap (plus_real (held old o)) (sym (plus_real-zero (part (same_values p.slots o) (mass p.state)) (part_is_least (same_values p.slots o) (mass p.state) (mass_is_least p))))

adds_both : (old middle new : Masses) (xs ys : List Point) → Adds old middle xs → Adds middle new ys → Adds old new (xs ++ ys)
adds_both old middle new xs ys f g o =
    g o
    ∙ ap (λ x. plus_real x (share ys o)) (f o)
    ∙ plus_real_assoc (held old o) (share xs o) (share ys o)
    ∙ ap (plus_real (held old o)) (sym (share-append xs ys o))

-- ---- the sizes of what follows

applied-halvings : (g : Operator) (qs : List ℕ) (s : State) → (applied g qs s).halvings ≡ s.halvings + g.halvings
unfolding applied
applied-halvings g qs s = refl

project-halvings : (q : ℕ) (b : Bool) (s : State) → (project q b s).halvings ≡ s.halvings
unfolding project
project-halvings q b s = refl

-- as many qubits, and at most one halving more
pub record Keeps (p q : Point) : Type 0 where
  pub qubits : q.state.qubits ≡ p.state.qubits
  pub halvings : q.state.halvings ≤ p.state.halvings + 1

gate_keeps : (g : Operator) (qs : List ℕ) (p q : Point) → g.halvings ≤ 1 → gate g qs p ≡ q ∷ [] → Keeps p q
gate_keeps g qs p q l e =
    let moved : Point = record p { state = applied g qs p.state } in
    let same : q ≡ moved = cc in
    let h : q.state.halvings ≡ p.state.halvings + g.halvings = ap (λ (r : Point). r.state.halvings) same ∙ applied-halvings g qs p.state in
    record {
      qubits = ap (λ (r : Point). r.state.qubits) same ∙ applied-qubits g qs p.state;
      halvings = omega (arith, h, l);
    }

pub after_gate_keeps : (s : Statement) (p q : Point) → IsGate s → statement_run s p ≡ q ∷ [] → Keeps p q
after_gate_keeps (Hadamard a) p q g e = gate_keeps h_gate (a ∷ []) p q (omega arith) e
after_gate_keeps (T a) p q g e = gate_keeps t_gate (a ∷ []) p q (omega arith) e
after_gate_keeps (X a) p q g e = gate_keeps x_gate (a ∷ []) p q (omega arith) e
after_gate_keeps (ControlledX a b) p q g e = gate_keeps cx_gate (a ∷ b ∷ []) p q (omega arith) e
after_gate_keeps (Measure a b) p q g e = absurd g

pub record Same (p q : Point) : Type 0 where
  pub qubits : q.state.qubits ≡ p.state.qubits
  pub halvings : q.state.halvings ≡ p.state.halvings

pub after_outcome_same : (qubit place : ℕ) (bit : Bool) (p q : Point) → outcome qubit place bit p ≡ q ∷ [] → Same p q
after_outcome_same qubit place bit p q e = step (vanishes (project qubit bit p.state)) e
  where
    moved : Point
    moved = record { slots = stored place bit p.slots; state = project qubit bit p.state }

    step : (v : Bool) → unless v (λ r. r ∷ []) (record { slots = stored place bit p.slots; state = project qubit bit p.state }) ≡ q ∷ [] → Same p q
    step true f = cc
    step false f =
        let next : Point = record { slots = stored place bit p.slots; state = project qubit bit p.state } in
        let same : q ≡ next = cc in
        record {
          qubits = ap (λ (r : Point). r.state.qubits) same ∙ project-qubits qubit bit p.state;
          halvings = ap (λ (r : Point). r.state.halvings) same ∙ project-halvings qubit bit p.state;
        }

measurements-gate : (s : Statement) (ss : List Statement) → IsGate s → measurements (s ∷ ss) ≡ measurements ss
measurements-gate (Hadamard a) ss g = refl
measurements-gate (T a) ss g = refl
measurements-gate (X a) ss g = refl
measurements-gate (ControlledX a b) ss g = refl
measurements-gate (Measure a b) ss g = absurd g

-- each measurement doubles the number of leaves
leaves_double : (m : ℕ) → 2 ^ suc m ≡ 2 ^ m + 2 ^ m
leaves_double m = let e = pow-suc 2 m in omega (arith, e)

-- ---- the first statement and the others

pub split_first : (ss : List Statement) (d s : Statement) → 1 ≤ length ss → slice_index_or ss 0 d ≡ s → ss ≡ s ∷ take (length ss - 1) (drop 1 ss)
split_first [] d s l e = absurd (omega (arith, l))
split_first (x ∷ xs) d s l e =
    let n : suc (length xs) - 1 ≡ length xs = omega arith in
    let t : take (suc (length xs) - 1) xs ≡ xs = ap (λ k. take k xs) n ∙ take-length xs in
    ap (λ y. y ∷ xs) e ∙ ap (λ ys. s ∷ ys) (sym t)

-- what is known at a measurement
pub record AtMeasure (n qubit bit : ℕ) (ss rest : List Statement) : Type 0 where
  pub qubit_in : qubit < n
  pub bit_in : bit < 64
  pub placed : ArePlaced n 64 rest
  pub one_less : length ss ≡ length rest + 1
  pub doubled : 2 ^ measurements ss ≡ 2 ^ measurements rest + 2 ^ measurements rest

pub at_measure : (n qubit bit : ℕ) (ss rest : List Statement) → ss ≡ Measure qubit bit ∷ rest → ArePlaced n 64 ss → AtMeasure n qubit bit ss rest
at_measure n qubit bit ss rest e p =
    let q : ArePlaced n 64 (Measure qubit bit ∷ rest) = subst (ArePlaced n 64) e p in
    let l : length ss ≡ suc (length rest) = ap length e in
    record {
      qubit_in = q.0.0;
      bit_in = q.0.1;
      placed = q.1;
      one_less = omega (arith, l);
      doubled = ap (λ xs. 2 ^ measurements xs) e ∙ leaves_double (measurements rest);
    }

-- what is known at a gate
pub record AtGate (n : ℕ) (s : Statement) (ss rest : List Statement) : Type 0 where
  pub gate_placed : IsPlaced n 64 s
  pub placed : ArePlaced n 64 rest
  pub one_less : length ss ≡ length rest + 1
  pub as_many : measurements ss ≡ measurements rest

pub at_gate : (n : ℕ) (s : Statement) (ss rest : List Statement) → IsGate s → ss ≡ s ∷ rest → ArePlaced n 64 ss → AtGate n s ss rest
at_gate n s ss rest g e p =
    let q : ArePlaced n 64 (s ∷ rest) = subst (ArePlaced n 64) e p in
    let l : length ss ≡ suc (length rest) = ap length e in
    record {
      gate_placed = q.0;
      placed = q.1;
      one_less = omega (arith, l);
      as_many = ap measurements e ∙ measurements-gate s rest g;
    }

pub adds_leaf : (old new : Masses) (ss : List Statement) (p : Point) (output : List ℕ) (m : Mass) → length ss < 1 → output ≡ p.slots → real_of_mass m ≡ mass p.state
    → ((o : List ℕ) → held new o ≡ plus_real (held old o) (part (same_values output o) (real_number m))) → Adds old new (leaves ss p)
unfolding real_number
adds_leaf old new [] p output m l s e h =
    adds_one old new p (real_number m) e (λ o. h o ∙ ap (λ x. plus_real (held old o) (part (same_values x o) (real_number m))) s)
adds_leaf old new (x ∷ xs) p output m l s e h = absurd (omega (arith, l))

pub adds_measure : (old middle new : Masses) (ss rest : List Statement) (qubit bit : ℕ) (p : Point) → ss ≡ Measure qubit bit ∷ rest
    → Adds old middle (flat_map (leaves rest) (outcome qubit bit false p)) → Adds middle new (flat_map (leaves rest) (outcome qubit bit true p)) → Adds old new (leaves ss p)
adds_measure old middle new ss rest qubit bit p e f g =
    subst (Adds old new) (sym (leaves-measure qubit bit rest p) ∙ ap (λ xs. leaves xs p) (sym e))
    (adds_both old middle new (flat_map (leaves rest) (outcome qubit bit false p)) (flat_map (leaves rest) (outcome qubit bit true p)) f g)

pub is_gate : (s : Statement) → ((q b : ℕ) → s ≡ Measure q b → ⊥) → IsGate s
is_gate (Hadamard a) f = tt
is_gate (T a) f = tt
is_gate (X a) f = tt
is_gate (ControlledX a b) f = tt
is_gate (Measure a b) f = f a b refl

-- ---- the root

zero_state-halvings : (n : ℕ) → (zero_state n).halvings ≡ 0
unfolding zero_state
zero_state-halvings n = refl

placed_more : (n m k : ℕ) (s : Statement) → m ≤ k → IsPlaced n m s → IsPlaced n k s
placed_more n m k (Hadamard a) l h = h
placed_more n m k (T a) l h = h
placed_more n m k (X a) l h = h
placed_more n m k (ControlledX a b) l h = h
placed_more n m k (Measure a b) l h = (h.0, omega (arith, h.1, l))

all_placed_more : (n m k : ℕ) (ss : List Statement) → m ≤ k → ArePlaced n m ss → ArePlaced n k ss
all_placed_more n m k [] l h = tt
all_placed_more n m k (s ∷ ss) l h = (placed_more n m k s l h.0, all_placed_more n m k ss l h.1)

pub root_placed : (p : Program) (r : Point) → IsWithinLimits p → r ≡ root p → ArePlaced r.state.qubits 64 p.statements
root_placed p r h e =
    subst (λ n. ArePlaced n 64 p.statements) (sym (ap (λ (q : Point). q.state.qubits) e ∙ zero_state-qubits p.qubits))
    (all_placed_more p.qubits p.bits 64 p.statements (omega (arith, h.few_bits)) h.placed)

pub root_halvings : (p : Program) (r : Point) → IsWithinLimits p → r ≡ root p → r.state.halvings + length p.statements ≤ 32
root_halvings p r h e =
    let z : r.state.halvings ≡ 0 = ap (λ (q : Point). q.state.halvings) e ∙ zero_state-halvings p.qubits in
    omega (arith, z, h.few_statements)

-- from no masses, the tally holds the shares
pub shares_held : (old new : Masses) (ss : List Statement) (p : Program) (r : Point) → old ≡ [] → ss ≡ p.statements → r ≡ root p → Adds old new (leaves ss r)
    → (o : List ℕ) → held new o ≡ share (leaves_of p) o
shares_held old new ss p r e f g h o =
    h o
    ∙ ap (λ (m : Masses). plus_real (held m o) (share (leaves ss r) o)) e
    ∙ zero_real-plus (share (leaves ss r) o) (share_is_least (leaves ss r) o)
    ∙ ap (λ xs. share (leaves xs r) o) f
    ∙ ap (λ q. share (leaves p.statements q) o) g
