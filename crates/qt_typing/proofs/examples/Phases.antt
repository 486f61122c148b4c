-- Phases stand beside angles and as values of angles, where they are constant.
use Rattle.std.proofs.Common.{◌≡◌, refl, [], ◌∷◌, None, Some, Ok, Err}
use Rattle.std.specs.Prelude.{codes}
use Rattle.qt_tree.specs.declared.expression.InfixOperator.TheVariants as infixes
use Rattle.qt_tree.specs.declared.program.Item.TheVariants as item
use Rattle.qt_tree.specs.declared.refusal.Cause.TheVariants as cause
use Rattle.qt_tree.specs.declared.refusal.TextRefusal.TheVariants as refusal
use Rattle.qt_tree.specs.declared.statement.Right.TheVariants as right
use Rattle.qt_tree.specs.declared.statement.StatementForm.TheOpen as s
use Rattle.qt_typing.specs.Programs.{typing_of}
use Rattle.qt_typing.proofs.Rolls.{rolls}
use Rattle.qt_typing.proofs.examples.Words.{angle, at_place, between, everything, int, name, numbers, pi, program}
use Rattle.qt_typing.proofs.examples.Words.{statement, whole}

-- angle[3] a = pi / 8;
no_step : typing_of [] (program ((item.Statement (statement 1 1 (s.Declaration (angle (Some (whole 3))) (codes "a") (Some
    (right.Value (between infixes.Div pi (whole 8))))))) ∷ [])) ≡ Err (refusal.E12 (at_place 1 1) cause.Exact)
unfolding everything
no_step = simp rolls refl

-- angle[3] a = pi / 4;
a_step : numbers (typing_of [] (program ((item.Statement (statement 1 1 (s.Declaration (angle (Some (whole 3))) (codes "a") (Some
    (right.Value (between infixes.Div pi (whole 4))))))) ∷ []))) ≡ Ok (0, 1)
unfolding everything
a_step = simp rolls refl

-- int n; angle[3] a = n * pi;
varying : typing_of [] (program ((item.Statement (statement 1 1 (s.Declaration (int None) (codes "n") None)))
    ∷ (item.Statement (statement 1 8 (s.Declaration (angle (Some (whole 3))) (codes "a") (Some (right.Value (between infixes.Mul
    (name (codes "n")) pi)))))) ∷ [])) ≡ Err (refusal.E12 (at_place 1 8) cause.Variable)
unfolding everything
varying = simp rolls refl

-- int n; angle[3] a = n + pi;
beside_number : typing_of [] (program ((item.Statement (statement 1 1 (s.Declaration (int None) (codes "n") None)))
    ∷ (item.Statement (statement 1 8 (s.Declaration (angle (Some (whole 3))) (codes "a") (Some (right.Value (between infixes.Add
    (name (codes "n")) pi)))))) ∷ [])) ≡ Err (refusal.E10 (at_place 1 8))
unfolding everything
beside_number = simp rolls refl

-- angle[3] a = 0;
zero : numbers (typing_of [] (program ((item.Statement (statement 1 1 (s.Declaration (angle (Some (whole 3))) (codes "a") (Some
    (right.Value (whole 0)))))) ∷ []))) ≡ Ok (0, 1)
unfolding everything
zero = simp rolls refl
