-- Registers, aliases and the qubits that a call is given.
use Rattle.std.proofs.Common.{◌≡◌, refl, [], ◌∷◌, None, Some, Ok, Err}
use Rattle.std.specs.Prelude.{codes}
use Rattle.qt_tree.specs.declared.expression.PrefixOperator.TheVariants as prefixes
use Rattle.qt_tree.specs.declared.program.Item.TheVariants as item
use Rattle.qt_tree.specs.declared.refusal.Cause.TheVariants as cause
use Rattle.qt_tree.specs.declared.refusal.TextRefusal.TheVariants as refusal
use Rattle.qt_tree.specs.declared.statement.Right.TheVariants as right
use Rattle.qt_tree.specs.declared.statement.StatementForm.TheOpen as s
use Rattle.qt_typing.specs.Programs.{typing_of}
use Rattle.qt_typing.proofs.Rolls.{rolls}
use Rattle.qt_typing.proofs.examples.Words.{all_of, array_at, at, at_place, bit, everything, int, name, numbers}
use Rattle.qt_typing.proofs.examples.Words.{places, places_of, program, qubits, range, sign, statement, target, whole}

-- qubit[3] q; reset q[3];
place : typing_of [] (program ((item.Qubit (at_place 1 1) (Some (whole 3)) (codes "q"))
    ∷ (item.Statement (statement 1 13 (s.Reset (qubits (codes "q") (at (whole 3))))))
    ∷ [])) ≡ Err (refusal.E12 (at_place 1 13) cause.Range)
unfolding everything
place = simp rolls refl

-- qubit[3] q; reset q[-3];
last_place : numbers (typing_of [] (program ((item.Qubit (at_place 1 1) (Some (whole 3)) (codes "q"))
    ∷ (item.Statement (statement 1 13 (s.Reset (qubits (codes "q") (at (sign prefixes.Neg (whole 3))))))) ∷ []))) ≡ Ok (3, 0)
unfolding everything
last_place = simp rolls refl

-- qubit[3] q; reset q[{0, 0}];
set_twice : typing_of [] (program ((item.Qubit (at_place 1 1) (Some (whole 3)) (codes "q"))
    ∷ (item.Statement (statement 1 13 (s.Reset (qubits (codes "q") (places ((whole 0) ∷ (whole 0) ∷ []))))))
    ∷ [])) ≡ Err (refusal.E11 (at_place 1 13) cause.Qubit)
unfolding everything
set_twice = simp rolls refl

-- qubit[3] q; let a = q[0:1] ++ q[1];
alias_twice : typing_of [] (program ((item.Qubit (at_place 1 1) (Some (whole 3)) (codes "q"))
    ∷ (item.Statement (statement 1 13 (s.Alias (codes "a") ((qubits (codes "q") (places_of (range (Some (whole 0)) None (Some (whole
    1))))) ∷ (qubits (codes "q") (at (whole 1))) ∷ [])))) ∷ [])) ≡ Err (refusal.E11 (at_place 1 13) cause.Qubit)
unfolding everything
alias_twice = simp rolls refl

-- qubit[3] q; let a = q[0:1] ++ q[2]; bit[3] c = measure a;
alias : numbers (typing_of [] (program ((item.Qubit (at_place 1 1) (Some (whole 3)) (codes "q"))
    ∷ (item.Statement (statement 1 13 (s.Alias (codes "a") ((qubits (codes "q") (places_of (range (Some (whole 0)) None (Some (whole
    1))))) ∷ (qubits (codes "q") (at (whole 2))) ∷ [])))) ∷ (item.Statement (statement 1 37 (s.Declaration (bit (Some (whole 3)))
    (codes "c") (Some (right.Measure (all_of (codes "a"))))))) ∷ []))) ≡ Ok (3, 1)
unfolding everything
alias = simp rolls refl

-- qubit[2] q; bit c = measure q;
too_few : typing_of [] (program ((item.Qubit (at_place 1 1) (Some (whole 2)) (codes "q"))
    ∷ (item.Statement (statement 1 13 (s.Declaration (bit None) (codes "c") (Some (right.Measure (all_of (codes "q")))))))
    ∷ [])) ≡ Err (refusal.E14 (at_place 1 13) 1 2)
unfolding everything
too_few = simp rolls refl

-- qubit q; array[int[1], 2] z; int i; z[i] = measure q;
array_of_bits : typing_of [] (program ((item.Qubit (at_place 1 1) None (codes "q"))
    ∷ (array_at (at_place 1 10) (int (Some (whole 1))) ((whole 2) ∷ []) (codes "z") None)
    ∷ (item.Statement (statement 1 30 (s.Declaration (int None) (codes "i") None)))
    ∷ (item.Statement (statement 1 37 (s.Assignment (target (codes "z") (((at (name (codes "i"))) ∷ [])
    ∷ [])) (right.Measure (all_of (codes "q")))))) ∷ [])) ≡ Err (refusal.E11 (at_place 1 37) cause.Register)
unfolding everything
array_of_bits = simp rolls refl
