-- Single qubits that are taken from the last operand on.
use Rattle.std.proofs.Common.{◌≡◌, List, [], ◌∷◌, ◌++◌, reverse, refl, sym, ap, ◌∙◌, append_assoc}
use Rattle.std.proofs.lemmas.List.{reverse-append}
use Rattle.qt_typed.specs.declared.call.TypedQubit.{TypedQubit}
use Rattle.qt_typed.specs.declared.call.TypedQubits.{TypedQubits}
use Rattle.qt_typed.specs.declared.call.TypedQubits.TheVariants as qubits
use Rattle.qt_typing.specs.Gates.{singles}

singles_append : (front back : List TypedQubits) → singles (front ++ back) ≡ singles front ++ singles back
singles_append [] back = refl
singles_append (qubits.Single q ∷ front) back = ap (λ rest. q ∷ rest) (singles_append front back)
singles_append (qubits.Register register ∷ front) back = singles_append front back

one_round : (last : TypedQubits) → reverse (singles (last ∷ [])) ≡ singles (last ∷ [])
one_round (qubits.Single q) = refl
one_round (qubits.Register register) = refl

last_first : (front : List TypedQubits) (last : TypedQubits) → reverse (singles (front ++ last ∷ []))
    ≡ singles (last ∷ []) ++ reverse (singles front)
last_first front last =
    ap reverse (singles_append front (last ∷ []))
    ∙ reverse-append (singles front) (singles (last ∷ []))
    ∙ ap (λ first. first ++ reverse (singles front)) (one_round last)

-- the qubit of the last operand stands behind those that were taken before it
pub one_more : (back : List TypedQubit) (front : List TypedQubits) (last : TypedQubits)
    → (back ++ singles (last ∷ [])) ++ reverse (singles front) ≡ back ++ reverse (singles (front ++ last ∷ []))
one_more back front last =
    append_assoc back (singles (last ∷ [])) (reverse (singles front)) ∙ ap (λ rest. back ++ rest) (sym (last_first front last))
