-- Gate calls by the meaning are their primitives (OpenQASM 3.0 live specification, "Gates", applying gates; Cross et al. 2022; steps and work
-- cells are this profile's). The meaning multiplies the state by the one matrix of a call; the same comes of the call's primitives one after
-- another, and of those of its expansion, after a run of the steps: with the same trail, and a fault at the same primitive.
use Rattle.std.specs.Prelude.{◌≡◌, ℕ, List, map}
use Rattle.qt_tree.specs.declared.place.Place.{Place}
use Rattle.qt_ring.specs.State.{HasAllEntries}
use Rattle.qt_gate_calls.specs.Faults.{all_reckoned}
use Rattle.qt_gate_calls.specs.Primitives.{Primitive, no_controls, call_primitives, primitives_of}
use Rattle.qt_gate_calls.specs.Units.{KnownUnits}
use Rattle.qt_instructions.specs.declared.reference.QubitRef.{QubitRef}
use Rattle.qt_typed.specs.declared.call.GateUse.{GateUse}
use Rattle.qt_meaning.specs.Points.{Point}
use Rattle.qt_meaning.specs.Applying.{multiplied}
use Rattle.qt_primitives.specs.declared.unit.Argument.{Argument}
use Rattle.qt_modify.specs.Expansions.{no_qubit}
use Rattle.qt_modify.specs.Calls.{use_expansion}
use Rattle.qt_modify_laws.specs.Laws.{held_in, primitive_at}
use Rattle.qt_modify_laws.specs.Running.{UnitCells, known_in, steps_run, AreBelow}
use Rattle.qt_gate_laws.specs.Laws.{IsCall}
use Rattle.qt_gate_call_laws.specs.Seen.{LookAlike}
use Rattle.qt_gate_call_laws.specs.Applying.{primitives_run, where_reckoned, after_steps}

-- a gate with its modifiers on these qubits, as many as it has and all different
abbrev pub IsUse : GateUse → ℕ → List ℕ → Type 0
IsUse used n qs = IsCall used.gates used.modifiers used.gate n qs

-- the primitives of a gate with its modifiers, for what is known of its arguments
abbrev pub use_primitives : GateUse → List KnownUnits → List ℕ → List Primitive
use_primitives used angles qs = call_primitives (primitives_of used.gates) used.modifiers used.gate angles no_controls qs

-- a call is its primitives one after another, where all their angles can be reckoned
abbrev pub CallsArePrimitives : Type 0
CallsArePrimitives =
    (used : GateUse) (angles : List KnownUnits) (qs : List ℕ) (place : Place) (p : Point) → IsUse used p.state.qubits qs → HasAllEntries p.state
    → LookAlike (multiplied used angles qs place p)
    (where_reckoned (all_reckoned (use_primitives used angles qs)) place (primitives_run (use_primitives used angles qs) place) p)

-- a call whose arguments and qubits stand in cells is the primitives of its expansion after a run of the steps
abbrev pub CallsAreExpansions : Type 0
CallsAreExpansions =
    (used : GateUse) (given : List Argument) (refs : List QubitRef) (first : ℕ) → AreBelow first given → (named : QubitRef → ℕ)
    → named no_qubit ≡ 0 → (cells : UnitCells) (place : Place) (p : Point) → IsUse used p.state.qubits (map named refs) → HasAllEntries p.state
    → LookAlike (multiplied used (map (held_in (known_in cells)) given) (map named refs) place p)
    (after_steps (steps_run (use_expansion used given refs first).steps cells) place
    (λ new. primitives_run (map (primitive_at named (known_in new)) (use_expansion used given refs first).primitives) place) p)
