-- Scopes, subroutines and what they see.
use Rattle.std.proofs.Common.{◌≡◌, refl, [], ◌∷◌, None, Some, Ok, Err, true}
use Rattle.std.specs.Prelude.{codes}
use Rattle.qt_tree.specs.declared.program.Item.TheVariants as item
use Rattle.qt_tree.specs.declared.program.Parameter.TheVariants as parameter
use Rattle.qt_tree.specs.declared.refusal.Cause.TheVariants as cause
use Rattle.qt_tree.specs.declared.refusal.TextRefusal.TheVariants as refusal
use Rattle.qt_tree.specs.declared.statement.Right.TheVariants as right
use Rattle.qt_tree.specs.declared.statement.StatementForm.TheOpen as s
use Rattle.qt_typing.specs.Programs.{typing_of}
use Rattle.qt_typing.proofs.Rolls.{rolls}
use Rattle.qt_typing.proofs.examples.Words.{at_place, bit, call, everything, int, name, numbers, parenthesized, program}
use Rattle.qt_typing.proofs.examples.Words.{statement, subroutine, truth, variable, whole}

-- int g; def f() { g = 1; }
global_variable : typing_of [] (program ((item.Statement (statement 1 1 (s.Declaration (int None) (codes "g") None)))
    ∷ (subroutine (at_place 1 8) (codes "f") [] None ((statement 1 18 (s.Assignment (variable (codes "g")) (right.Value (whole 1))))
    ∷ [])) ∷ [])) ≡ Err (refusal.E8 (at_place 1 18) (codes "g"))
unfolding everything
global_variable = simp rolls refl

-- const int g = 2; def f() -> int[g] { return g; }
global_constant : numbers (typing_of [] (program ((item.Statement (statement 1 1 (s.Constant (int None) (codes "g") (whole 2))))
    ∷ (subroutine (at_place 1 18) (codes "f") [] (Some (int (Some (name (codes "g"))))) ((statement 1 38 (s.Return (Some (right.Value
    (name (codes "g")))))) ∷ [])) ∷ []))) ≡ Ok (0, 0)
unfolding everything
global_constant = simp rolls refl

-- int x = x;
own_name : typing_of [] (program ((item.Statement (statement 1 1 (s.Declaration (int None) (codes "x") (Some (right.Value (name
    (codes "x"))))))) ∷ [])) ≡ Err (refusal.E8 (at_place 1 1) (codes "x"))
unfolding everything
own_name = simp rolls refl

-- int x; if (true) { bit x; }
inner : numbers (typing_of [] (program ((item.Statement (statement 1 1 (s.Declaration (int None) (codes "x") None)))
    ∷ (item.Statement (statement 1 8 (s.If (truth true) ((statement 1 20 (s.Declaration (bit None) (codes "x") None)) ∷ []) None)))
    ∷ []))) ≡ Ok (0, 2)
unfolding everything
inner = simp rolls refl

-- def f(int a) -> int { return a; } int x = f(1);
called : numbers (typing_of [] (program ((subroutine (at_place 1 1) (codes "f") ((parameter.Classical (int None) (codes "a"))
    ∷ []) (Some (int None)) ((statement 1 23 (s.Return (Some (right.Value (name (codes "a")))))) ∷ []))
    ∷ (item.Statement (statement 1 35 (s.Declaration (int None) (codes "x") (Some (right.Value (call (codes "f") ((whole 1)
    ∷ []))))))) ∷ []))) ≡ Ok (0, 3)
unfolding everything
called = simp rolls refl

-- def f() -> int { return 1; } int x = (f());
no_part : typing_of [] (program ((subroutine (at_place 1 1) (codes "f") [] (Some (int None)) ((statement 1 18 (s.Return (Some
    (right.Value (whole 1))))) ∷ [])) ∷ (item.Statement (statement 1 30 (s.Declaration (int None) (codes "x") (Some (right.Value
    (parenthesized (call (codes "f") []))))))) ∷ [])) ≡ Err (refusal.E11 (at_place 1 30) cause.Call)
unfolding everything
no_part = simp rolls refl

-- def f(int a) { } f();
given : typing_of [] (program ((subroutine (at_place 1 1) (codes "f") ((parameter.Classical (int None) (codes "a")) ∷ []) None [])
    ∷ (item.Statement (statement 1 18 (s.Call (codes "f") []))) ∷ [])) ≡ Err (refusal.E14 (at_place 1 18) 1 0)
unfolding everything
given = simp rolls refl
