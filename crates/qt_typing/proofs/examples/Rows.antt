-- The smallest refused program for each judgement, and programs near to them that are accepted.
use Rattle.std.proofs.Common.{◌≡◌, refl, [], ◌∷◌, None, Some, Ok, Err, true}
use Rattle.std.specs.Prelude.{codes}
use Rattle.qt_tree.specs.declared.expression.InfixOperator.TheVariants as infixes
use Rattle.qt_tree.specs.declared.program.Item.TheVariants as item
use Rattle.qt_tree.specs.declared.program.VersionNumber.TheVariants as version
use Rattle.qt_tree.specs.declared.refusal.Cause.TheVariants as cause
use Rattle.qt_tree.specs.declared.refusal.TextRefusal.TheVariants as refusal
use Rattle.qt_tree.specs.declared.statement.Right.TheVariants as right
use Rattle.qt_tree.specs.declared.statement.StatementForm.TheOpen as s
use Rattle.qt_typing.specs.Programs.{typing_of}
use Rattle.qt_typing.proofs.Rolls.{rolls}
use Rattle.qt_typing.proofs.examples.Words.{all_of, angle, array_at, at_place, between, bit, everything, int, numbers}
use Rattle.qt_typing.proofs.examples.Words.{pi, program, statement, truth, uint, variable, versioned, whole}

-- qubit[2] q; bit[2] c; c = measure q;
measured : numbers (typing_of [] (program ((item.Qubit (at_place 1 1) (Some (whole 2)) (codes "q"))
    ∷ (item.Statement (statement 1 13 (s.Declaration (bit (Some (whole 2))) (codes "c") None)))
    ∷ (item.Statement (statement 1 23 (s.Assignment (variable (codes "c")) (right.Measure (all_of (codes "q")))))) ∷ []))) ≡ Ok (2, 1)
unfolding everything
measured = simp rolls refl

-- bit c; bit c;
twice : typing_of [] (program ((item.Statement (statement 1 1 (s.Declaration (bit None) (codes "c") None)))
    ∷ (item.Statement (statement 1 8 (s.Declaration (bit None) (codes "c") None)))
    ∷ [])) ≡ Err (refusal.E9 (at_place 1 8) (codes "c"))
unfolding everything
twice = simp rolls refl

-- x = 1;
unknown : typing_of [] (program ((item.Statement (statement 1 1 (s.Assignment (variable (codes "x")) (right.Value (whole 1)))))
    ∷ [])) ≡ Err (refusal.E8 (at_place 1 1) (codes "x"))
unfolding everything
unknown = simp rolls refl

-- uint[8] n = pi;
phase_as_number : typing_of [] (program ((item.Statement (statement 1 1 (s.Declaration (uint (Some (whole 8))) (codes "n") (Some
    (right.Value pi))))) ∷ [])) ≡ Err (refusal.E10 (at_place 1 1))
unfolding everything
phase_as_number = simp rolls refl

-- angle[8] a = pi;
phase_as_angle : numbers (typing_of [] (program ((item.Statement (statement 1 1 (s.Declaration (angle (Some (whole 8))) (codes "a")
    (Some (right.Value pi))))) ∷ []))) ≡ Ok (0, 1)
unfolding everything
phase_as_angle = simp rolls refl

-- break;
no_loop : typing_of [] (program ((item.Statement (statement 1 1 s.Break)) ∷ [])) ≡ Err (refusal.E11 (at_place 1 1) cause.Loop)
unfolding everything
no_loop = simp rolls refl

-- while (true) break;
in_loop : numbers (typing_of [] (program ((item.Statement (statement 1 1 (s.While (truth true) ((statement 1 14 s.Break) ∷ []))))
    ∷ []))) ≡ Ok (0, 0)
unfolding everything
in_loop = simp rolls refl

-- bit[65] b;
wide : typing_of [] (program ((item.Statement (statement 1 1 (s.Declaration (bit (Some (whole 65))) (codes "b") None)))
    ∷ [])) ≡ Err (refusal.E12 (at_place 1 1) cause.Range)
unfolding everything
wide = simp rolls refl

-- bit[64] b;
widest : numbers (typing_of [] (program ((item.Statement (statement 1 1 (s.Declaration (bit (Some (whole 64))) (codes "b") None)))
    ∷ []))) ≡ Ok (0, 1)
unfolding everything
widest = simp rolls refl

-- const int i = 1 / 0;
divided : typing_of [] (program ((item.Statement (statement 1 1 (s.Constant (int None) (codes "i") (between infixes.Div (whole 1)
    (whole 0))))) ∷ [])) ≡ Err (refusal.E12 (at_place 1 1) cause.Divide)
unfolding everything
divided = simp rolls refl

-- int i = 1 / 0;
divided_later : numbers (typing_of [] (program ((item.Statement (statement 1 1 (s.Declaration (int None) (codes "i") (Some
    (right.Value (between infixes.Div (whole 1) (whole 0))))))) ∷ []))) ≡ Ok (0, 1)
unfolding everything
divided_later = simp rolls refl

-- array[uint[8], 1025] z;
many_slots : typing_of [] (program ((array_at (at_place 1 1) (uint (Some (whole 8))) ((whole 1025) ∷ []) (codes "z") None)
    ∷ [])) ≡ Err (refusal.E16 1025)
unfolding everything
many_slots = simp rolls refl

-- array[uint[8], 1024] z;
most_slots : numbers (typing_of [] (program ((array_at (at_place 1 1) (uint (Some (whole 8))) ((whole 1024) ∷ []) (codes "z") None)
    ∷ []))) ≡ Ok (0, 1024)
unfolding everything
most_slots = simp rolls refl

-- qubit[17] q;
many_qubits : typing_of [] (program ((item.Qubit (at_place 1 1) (Some (whole 17)) (codes "q")) ∷ [])) ≡ Err (refusal.E15 17)
unfolding everything
many_qubits = simp rolls refl

-- qubit[16] q;
most_qubits : numbers (typing_of [] (program ((item.Qubit (at_place 1 1) (Some (whole 16)) (codes "q")) ∷ []))) ≡ Ok (16, 0)
unfolding everything
most_qubits = simp rolls refl

-- OPENQASM 2.0;
old_version : typing_of [] (versioned (version.Decimal (codes "2.0")) []) ≡ Err (refusal.E7 (at_place 1 1))
unfolding everything
old_version = refl
