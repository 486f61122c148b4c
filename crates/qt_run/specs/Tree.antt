-- The meaning of a program as the tree of its outcomes: a run goes from a point to the list of the leaves that it ends in,
-- in order (OpenQASM 3.0 live specification, "Quantum measurement and reset", "Gates"; Cross et al. 2022).
-- A measurement gives, for the outcomes 0 and 1, the point with its projection and the outcome stored, where the projection
-- isn't zero. Vectors are never scaled.
use Rattle.std.specs.Prelude.{ℕ, ◌+◌, ◌-◌, ◌*◌, ◌^◌, Bool, true, false, List, [], ◌∷◌, ◌++◌}
use Rattle.std.specs.Int.{bit_at}
use Rattle.std.specs.List.{flat_map}
use Rattle.qt_ring.specs.Places.{digit}
use Rattle.qt_ring.specs.Matrix.{Operator}
use Rattle.qt_ring.specs.State.{State, zero_state, applied, project, vanishes}
use Rattle.qt_ring.specs.Gates.{h_gate, t_gate, x_gate, cx_gate}
use Rattle.qt_first.specs.declared.program.Statement.{Statement}
use Rattle.qt_first.specs.declared.program.Statement.TheVariants.{Hadamard, T, X, ControlledX, Measure}
use Rattle.qt_first.specs.declared.program.Program.{Program}

-- the classical slots and the state: the register c is slot 0
pub record Point : Type 0 where
  pub slots : List ℕ
  pub state : State

-- what follows from a point: the leaves, in order
abbrev pub Run : Type 0
Run = Point → List Point

-- a number with one of its bits replaced
abbrev pub with_bit : ℕ → Bool → ℕ → ℕ
with_bit place bit value = value - bit_at value place * 2 ^ place + digit bit * 2 ^ place

-- the outcome goes to a bit of the first slot
abbrev pub stored : ℕ → Bool → List ℕ → List ℕ
stored place bit [] = []
stored place bit (value ∷ slots) = with_bit place bit value ∷ slots

-- a gate gives one point
abbrev pub gate : Operator → List ℕ → Run
gate g qubits p = record p { state = applied g qubits p.state } ∷ []

-- no points where the condition holds
abbrev pub unless : Bool → Run → Run
unless true run p = []
unless false run p = run p

-- one outcome of a measurement, where its projection isn't zero
abbrev pub outcome : ℕ → ℕ → Bool → Run
outcome qubit place bit p =
    unless (vanishes (project qubit bit p.state)) (λ q. q ∷ [])
    (record { slots = stored place bit p.slots; state = project qubit bit p.state })

-- the points after one statement
abbrev pub statement_run : Statement → Run
statement_run (Hadamard q) p = gate h_gate (q ∷ []) p
statement_run (T q) p = gate t_gate (q ∷ []) p
statement_run (X q) p = gate x_gate (q ∷ []) p
statement_run (ControlledX c t) p = gate cx_gate (c ∷ t ∷ []) p
statement_run (Measure q b) p = outcome q b false p ++ outcome q b true p

-- the statement is no measurement
abbrev pub IsGate : Statement → Type 0
IsGate (Measure q b) = ⊥
IsGate _ = Unit {0}

-- each leaf of a statement goes on with the statements behind it
abbrev pub leaves : List Statement → Run
leaves [] p = p ∷ []
leaves (s ∷ ss) p = flat_map (leaves ss) (statement_run s p)

-- all qubits in 0 and the register zero
abbrev pub root : Program → Point
root p = record { slots = 0 ∷ []; state = zero_state p.qubits }

abbrev pub leaves_of : Program → List Point
leaves_of p = leaves p.statements (root p)
