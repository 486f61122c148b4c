-- The references of a primitive, and that its fixed qubits differ (flat code is this profile's; OpenQASM 3.0 live specification, "Gates",
-- applying gates).
use Rattle.std.specs.Prelude.{ℕ, Bool, true, false, not, ◌&&◌, nat_eq, List, [], ◌∷◌, ◌++◌}
use Rattle.std.specs.List.{list_any}
use Rattle.qt_instructions.specs.declared.reference.QubitRef.{QubitRef}
use Rattle.qt_instructions.specs.declared.reference.QubitRef.TheVariants as qubit
use Rattle.qt_instructions.specs.declared.primitive.Primitive.{Primitive}
use Rattle.qt_instructions.specs.declared.primitive.Primitive.TheVariants as primitive
use Rattle.qt_instructions.specs.declared.instruction.Instr.{Instr}
use Rattle.qt_instructions.specs.declared.instruction.Instr.TheVariants as instr

-- the controls that are to be 1, those that are to be 0, and the qubit of U
abbrev pub references_of : Primitive → List QubitRef
references_of (primitive.Turn ones zeros q theta phi lambda) = ones ++ (zeros ++ (q ∷ []))
references_of (primitive.Phase ones zeros gamma) = ones ++ zeros

abbrev pub is_fixed_at : ℕ → QubitRef → Bool
is_fixed_at q (qubit.At r) = nat_eq q r
is_fixed_at q (qubit.Work cell) = false

-- a fixed qubit is none of those; a qubit in a work cell is known in the run only
abbrev pub is_new : QubitRef → List QubitRef → Bool
is_new (qubit.At q) others = not (list_any (is_fixed_at q) others)
is_new (qubit.Work cell) others = true

-- each fixed qubit is none of those behind it
abbrev pub differ : List QubitRef → Bool
differ [] = true
differ (r ∷ rs) = is_new r rs && differ rs

abbrev pub has_different_qubits : Instr → Bool
has_different_qubits (instr.Gate p) = differ (references_of p)
has_different_qubits _ = true
