-- Primitives with qubits and angles that are known, as primitives under masks (OpenQASM 3.0 live specification, "Gates", built-in gates and
-- control modifiers; Cross et al. 2022). A mask has a bit for each qubit that controls; the order of controls plays no part.
use Rattle.std.specs.Prelude.{◌≡◌, ℕ, ◌<◌, false, List, if◌then◌else◌, Option, Some, None, Ok, Err}
use Rattle.qt_ring.specs.State.{State, HasAllEntries, applied}
use Rattle.qt_gate_calls.specs.Faults.{EighthPrimitive}
use Rattle.qt_gate_calls.specs.Primitives.{Turned, Phased}
use Rattle.qt_meaning.specs.Values.{Evaluated, BadAngle, SameQubit, and_then}
use Rattle.qt_instructions.specs.declared.reference.QubitRef.{QubitRef}
use Rattle.qt_code.specs.Cells.{Cells, qubit_of, qubits_of}
use Rattle.qt_code.specs.Tail.{operator_of, operands_of}
use Rattle.qt_machine.specs.declared.qubits.Named.{Named}
use Rattle.qt_machine.specs.Named.{with_qubit, with_qubits}
use Rattle.qt_kernel.specs.declared.primitive.FixedPrim.{FixedPrim}
use Rattle.qt_kernel.specs.declared.primitive.FixedPrim.TheVariants.{Turn, Phase}
use Rattle.qt_kernel.specs.Primitives.{product_of}
use Rattle.qt_resolved_gates.specs.declared.resolve.Masks.{Masks}

-- ---- masks

abbrev pub no_qubits : Named
no_qubits = record { mask = 0; twice = false }

abbrev pub mask_of : List ℕ → ℕ
mask_of qs = (with_qubits qs no_qubits).mask

abbrev pub prim_of : EighthPrimitive → FixedPrim
prim_of (Turned ones clear q theta phi lambda) = Turn (mask_of ones) (mask_of clear) q theta phi lambda
prim_of (Phased ones clear gamma) = Phase (mask_of ones) (mask_of clear) gamma

-- on each state of n qubits its product is that of the matrix on the qubits that are meant
abbrev pub ActsAs : ℕ → EighthPrimitive → FixedPrim → Type 0
ActsAs n e prim = (s : State) → s.qubits ≡ n → HasAllEntries s → product_of prim s ≡ applied (operator_of e) (operands_of e) s

-- ---- step by step: the controls, the qubit of U, the test that they differ, the angles

abbrev pub masks_by : ℕ → List QubitRef → List QubitRef → Cells → Evaluated Masks
masks_by n ones clear cells =
    and_then (qubits_of n ones cells) (λ os. and_then (qubits_of n clear cells) (λ zs.
    Ok (record { ones = mask_of os; zeros = mask_of zs; all = with_qubits zs (with_qubits os no_qubits) })))

abbrev pub unless_twice : {A : Type 0} → Named → Evaluated A → Evaluated A
unless_twice named rest = if named.twice then Err SameQubit else rest

abbrev pub turn_if : ℕ → ℕ → ℕ → Option ℕ → Option ℕ → Option ℕ → Evaluated FixedPrim
turn_if ones clear q (Some theta) (Some phi) (Some lambda) = Ok (Turn ones clear q theta phi lambda)
turn_if ones clear q _ _ _ = Err BadAngle

abbrev pub phase_if : ℕ → ℕ → Option ℕ → Evaluated FixedPrim
phase_if ones clear (Some gamma) = Ok (Phase ones clear gamma)
phase_if ones clear None = Err BadAngle

abbrev pub turn_by : ℕ → List QubitRef → List QubitRef → QubitRef → Option ℕ → Option ℕ → Option ℕ → Cells → Evaluated FixedPrim
turn_by n ones clear q theta phi lambda cells =
    and_then (masks_by n ones clear cells) (λ m. and_then (qubit_of n q cells) (λ t.
    unless_twice (with_qubit t m.all) (turn_if m.ones m.zeros t theta phi lambda)))

abbrev pub phase_by : ℕ → List QubitRef → List QubitRef → Option ℕ → Cells → Evaluated FixedPrim
phase_by n ones clear gamma cells =
    and_then (masks_by n ones clear cells) (λ m. unless_twice m.all (phase_if m.ones m.zeros gamma))

-- the angles are below a whole turn
abbrev pub HasAngles : FixedPrim → Type 0
HasAngles (Turn ones clear q theta phi lambda) = (theta < 8) × (phi < 8) × (lambda < 8)
HasAngles (Phase ones clear gamma) = gamma < 8
