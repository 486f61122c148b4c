-- The masses of all leaves together are that of the root.
use Rattle.std.proofs.Common.{◌≡◌, ℕ, ◌<◌, Bool, true, false, List, [], ◌∷◌, ◌++◌, refl, sym, ap, ◌∙◌, subst}
use Rattle.std.specs.List.{flat_map}
use Rattle.qt_ring.specs.State.{State, HasAllEntries, zero_state, applied, project, vanishes}
use Rattle.qt_ring.specs.Matrix.{Operator}
use Rattle.qt_ring.specs.Gates.{h_gate, t_gate, x_gate, cx_gate}
use Rattle.qt_root2.specs.Real.{one_real, plus_real}
use Rattle.qt_root2.proofs.Reals.{plus_real_assoc, plus_real-zero, zero_real-plus}
use Rattle.qt_mass.specs.Mass.{mass}
use Rattle.qt_mass.proofs.Masses.{all_entries_applied, all_entries_project, all_entries_zero_state, mass_applied_cx, mass_applied_h, mass_applied_t, mass_applied_x, mass_zero_state, project_masses, vanishing_mass}
use Rattle.qt_first.specs.declared.program.Statement.{Statement}
use Rattle.qt_first.specs.declared.program.Statement.TheVariants.{Hadamard, T, X, ControlledX, Measure}
use Rattle.qt_first.specs.declared.program.Program.{Program}
use Rattle.qt_first.specs.Form.{IsPlaced, ArePlaced, IsWithinLimits}
use Rattle.qt_run.specs.Tree.{Point, Run, gate, unless, outcome, stored, statement_run, leaves, root, leaves_of}
use Rattle.qt_run.proofs.Shares.{total, total_is_least, mass_is_least}

total-append : (xs ys : List Point) → total (xs ++ ys) ≡ plus_real (total xs) (total ys)
total-append [] ys = sym (zero_real-plus (total ys) (total_is_least ys))
total-append (x ∷ xs) ys = ap (plus_real (mass x.state)) (total-append xs ys) ∙ sym (plus_real_assoc (mass x.state) (total xs) (total ys))

-- a state of n qubits with all its entries
pub record Fits (n : ℕ) (s : State) : Type 0 where
  pub qubits : s.qubits ≡ n
  pub all_entries : HasAllEntries s

abbrev pub AllFit : ℕ → List Point → Type 0
AllFit n [] = Unit {0}
AllFit n (leaf ∷ leaves) = Fits n leaf.state × AllFit n leaves

fit-append : (n : ℕ) (xs ys : List Point) → AllFit n xs → AllFit n ys → AllFit n (xs ++ ys)
fit-append n [] ys f g = g
fit-append n (x ∷ xs) ys f g = (f.0, fit-append n xs ys f.1 g)

pub applied-qubits : (g : Operator) (qs : List ℕ) (s : State) → (applied g qs s).qubits ≡ s.qubits
unfolding applied
applied-qubits g qs s = refl

pub project-qubits : (q : ℕ) (b : Bool) (s : State) → (project q b s).qubits ≡ s.qubits
unfolding project
project-qubits q b s = refl

pub zero_state-qubits : (n : ℕ) → (zero_state n).qubits ≡ n
unfolding zero_state
zero_state-qubits n = refl

-- the points weigh what the state weighs, and their states fit
pub record Weighs (n : ℕ) (points : List Point) (s : State) : Type 0 where
  pub same : total points ≡ mass s
  pub fit : AllFit n points

gate_keeps : (n : ℕ) (g : Operator) (qs : List ℕ) (p : Point) → Fits n p.state → mass (applied g qs p.state) ≡ mass p.state → Weighs n (gate g qs p) p.state
gate_keeps n g qs p f e = record {
  same = plus_real-zero (mass (applied g qs p.state)) (mass_is_least (record p { state = applied g qs p.state })) ∙ e;
  fit = (record { qubits = applied-qubits g qs p.state ∙ f.qubits; all_entries = all_entries_applied g qs p.state }, tt);
}

outcome_keeps : (n q b : ℕ) (bit : Bool) (p : Point) → Fits n p.state → Weighs n (outcome q b bit p) (project q bit p.state)
outcome_keeps n q b bit p f = step (vanishes after) refl
  where
    after : State
    after = project q bit p.state

    step : (v : Bool) → vanishes (project q bit p.state) ≡ v → Weighs n (unless v (λ r. r ∷ []) (record { slots = stored b bit p.slots; state = project q bit p.state })) (project q bit p.state)
    step true e = record { same = sym (vanishing_mass (project q bit p.state) e); fit = tt }
    step false e = record {
      same = plus_real-zero (mass (project q bit p.state)) (mass_is_least (record { slots = p.slots; state = project q bit p.state }));
      fit = (record { qubits = project-qubits q bit p.state ∙ f.qubits; all_entries = all_entries_project q bit p.state }, tt);
    }

statement_keeps : (n m : ℕ) (s : Statement) (p : Point) → IsPlaced n m s → Fits n p.state → Weighs n (statement_run s p) p.state
statement_keeps n m (Hadamard q) p h f = gate_keeps n h_gate (q ∷ []) p f (mass_applied_h p.state q (subst (λ k. q < k) (sym f.qubits) h) f.all_entries)
statement_keeps n m (T q) p h f = gate_keeps n t_gate (q ∷ []) p f (mass_applied_t p.state q (subst (λ k. q < k) (sym f.qubits) h) f.all_entries)
statement_keeps n m (X q) p h f = gate_keeps n x_gate (q ∷ []) p f (mass_applied_x p.state q (subst (λ k. q < k) (sym f.qubits) h) f.all_entries)
statement_keeps n m (ControlledX c t) p h f =
    gate_keeps n cx_gate (c ∷ t ∷ []) p f (mass_applied_cx p.state c t (subst (λ k. c < k) (sym f.qubits) h.0) (subst (λ k. t < k) (sym f.qubits) h.1) h.2 f.all_entries)
statement_keeps n m (Measure q b) p h f =
    let zero_side = outcome_keeps n q b false p f in
    let one_side = outcome_keeps n q b true p f in
    record {
      same = total-append (outcome q b false p) (outcome q b true p)
          ∙ ap (λ x. plus_real x (total (outcome q b true p))) zero_side.same
          ∙ ap (plus_real (mass (project q false p.state))) one_side.same
          ∙ project_masses p.state q (subst (λ k. q < k) (sym f.qubits) h.0) f.all_entries;
      fit = fit-append n (outcome q b false p) (outcome q b true p) zero_side.fit one_side.fit;
    }

each_keeps : (n : ℕ) (run : Run) → ((p : Point) → Fits n p.state → total (run p) ≡ mass p.state) → (points : List Point) → AllFit n points → total (flat_map run points) ≡ total points
each_keeps n run k [] f = refl
each_keeps n run k (p ∷ ps) f =
    total-append (run p) (flat_map run ps) ∙ ap (λ x. plus_real x (total (flat_map run ps))) (k p f.0) ∙ ap (plus_real (mass p.state)) (each_keeps n run k ps f.1)

pub leaves_total : (n m : ℕ) (ss : List Statement) → ArePlaced n m ss → (p : Point) → Fits n p.state → total (leaves ss p) ≡ mass p.state
leaves_total n m [] h p f = plus_real-zero (mass p.state) (mass_is_least p)
leaves_total n m (s ∷ ss) h p f =
    let first = statement_keeps n m s p h.0 f in
    each_keeps n (leaves ss) (leaves_total n m ss h.1) (statement_run s p) first.fit ∙ first.same

pub program_total : (p : Program) → IsWithinLimits p → total (leaves_of p) ≡ one_real
program_total p h =
    leaves_total p.qubits p.bits p.statements h.placed (root p) (record { qubits = zero_state-qubits p.qubits; all_entries = all_entries_zero_state p.qubits })
    ∙ mass_zero_state p.qubits
