-- The qubits of a body, one operand after the other.
use Rattle.std.proofs.Common.{◌≡◌, List, [], ◌∷◌, ◌++◌, refl}
use Rattle.qt_typed.specs.declared.call.TypedQubit.TheVariants as qubit
use Rattle.qt_typed.specs.declared.call.TypedQubits.{TypedQubits}
use Rattle.qt_typed.specs.declared.call.TypedQubits.TheVariants as qubits
use Rattle.qt_typing.specs.GateItems.{body_qubits}

pub one_more : (operand : TypedQubits) (rest : List TypedQubits) → body_qubits (operand ∷ rest)
    ≡ body_qubits (operand ∷ []) ++ body_qubits rest
one_more (qubits.Single (qubit.Fixed q)) rest = refl
one_more (qubits.Single (qubit.Slot number)) rest = refl
one_more (qubits.Single (qubit.Indexed register index)) rest = refl
one_more (qubits.Register register) rest = refl
