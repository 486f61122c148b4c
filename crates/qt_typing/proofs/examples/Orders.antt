-- Two faults in one statement, in both orders.
use Rattle.std.proofs.Common.{◌≡◌, refl, [], ◌∷◌, None, Some, Err}
use Rattle.std.specs.Prelude.{codes}
use Rattle.qt_tree.specs.declared.program.Item.TheVariants as item
use Rattle.qt_tree.specs.declared.program.ListItem.TheVariants as list_item
use Rattle.qt_tree.specs.declared.refusal.Cause.TheVariants as cause
use Rattle.qt_tree.specs.declared.refusal.TextRefusal.TheVariants as refusal
use Rattle.qt_tree.specs.declared.statement.Right.TheVariants as right
use Rattle.qt_tree.specs.declared.statement.StatementForm.TheOpen as s
use Rattle.qt_typing.specs.Programs.{typing_of}
use Rattle.qt_typing.proofs.Rolls.{rolls}
use Rattle.qt_typing.proofs.examples.Words.{array_at, at_place, bit, everything, int, name, program, statement, variable}
use Rattle.qt_typing.proofs.examples.Words.{whole}

-- bit b; bit[65] b;
size_first : typing_of [] (program ((item.Statement (statement 1 1 (s.Declaration (bit None) (codes "b") None)))
    ∷ (item.Statement (statement 1 8 (s.Declaration (bit (Some (whole 65))) (codes "b") None)))
    ∷ [])) ≡ Err (refusal.E12 (at_place 1 8) cause.Range)
unfolding everything
size_first = simp rolls refl

-- bit b; creg b[65];
name_first : typing_of [] (program ((item.Statement (statement 1 1 (s.Declaration (bit None) (codes "b") None)))
    ∷ (item.Statement (statement 1 8 (s.BitRegister (codes "b") (Some (whole 65)))))
    ∷ [])) ≡ Err (refusal.E9 (at_place 1 8) (codes "b"))
unfolding everything
name_first = simp rolls refl

-- int x; int x = y;
name_before_value : typing_of [] (program ((item.Statement (statement 1 1 (s.Declaration (int None) (codes "x") None)))
    ∷ (item.Statement (statement 1 8 (s.Declaration (int None) (codes "x") (Some (right.Value (name (codes "y")))))))
    ∷ [])) ≡ Err (refusal.E9 (at_place 1 8) (codes "x"))
unfolding everything
name_before_value = simp rolls refl

-- x = y;
value_before_target : typing_of [] (program ((item.Statement (statement 1 1 (s.Assignment (variable (codes "x")) (right.Value (name
    (codes "y")))))) ∷ [])) ≡ Err (refusal.E8 (at_place 1 1) (codes "y"))
unfolding everything
value_before_target = simp rolls refl

-- bit[65] b = y;
size_before_value : typing_of [] (program ((item.Statement (statement 1 1 (s.Declaration (bit (Some (whole 65))) (codes "b") (Some
    (right.Value (name (codes "y"))))))) ∷ [])) ≡ Err (refusal.E12 (at_place 1 1) cause.Range)
unfolding everything
size_before_value = simp rolls refl

-- bit[64] b = y;
size_alone : typing_of [] (program ((item.Statement (statement 1 1 (s.Declaration (bit (Some (whole 64))) (codes "b") (Some
    (right.Value (name (codes "y"))))))) ∷ [])) ≡ Err (refusal.E8 (at_place 1 1) (codes "y"))
unfolding everything
size_alone = simp rolls refl

-- int n; array[bit, 2] n;
type_before_name : typing_of [] (program ((item.Statement (statement 1 1 (s.Declaration (int None) (codes "n") None)))
    ∷ (array_at (at_place 1 8) (bit None) ((whole 2) ∷ []) (codes "n") None) ∷ [])) ≡ Err (refusal.E10 (at_place 1 8))
unfolding everything
type_before_name = simp rolls refl

-- int n; array[int, 0] n;
lengths_before_name : typing_of [] (program ((item.Statement (statement 1 1 (s.Declaration (int None) (codes "n") None)))
    ∷ (array_at (at_place 1 8) (int None) ((whole 0) ∷ []) (codes "n") None) ∷ [])) ≡ Err (refusal.E12 (at_place 1 8) cause.Range)
unfolding everything
lengths_before_name = simp rolls refl

-- int n; array[int, 2] n = {y, 1};
name_before_list : typing_of [] (program ((item.Statement (statement 1 1 (s.Declaration (int None) (codes "n") None)))
    ∷ (array_at (at_place 1 8) (int None) ((whole 2) ∷ []) (codes "n") (Some ((list_item.Value (name (codes "y")))
    ∷ (list_item.Value (whole 1)) ∷ []))) ∷ [])) ≡ Err (refusal.E9 (at_place 1 8) (codes "n"))
unfolding everything
name_before_list = simp rolls refl

-- array[int, 2] n = {y};
count_before_items : typing_of [] (program ((array_at (at_place 1 1) (int None) ((whole 2)
    ∷ []) (codes "n") (Some ((list_item.Value (name (codes "y"))) ∷ []))) ∷ [])) ≡ Err (refusal.E10 (at_place 1 1))
unfolding everything
count_before_items = simp rolls refl

-- return y;
return_before_value : typing_of [] (program ((item.Statement (statement 1 1 (s.Return (Some (right.Value (name (codes "y")))))))
    ∷ [])) ≡ Err (refusal.E11 (at_place 1 1) cause.Return)
unfolding everything
return_before_value = simp rolls refl

-- qubit[17] q; x = 1;
limit_last : typing_of [] (program ((item.Qubit (at_place 1 1) (Some (whole 17)) (codes "q"))
    ∷ (item.Statement (statement 1 14 (s.Assignment (variable (codes "x")) (right.Value (whole 1)))))
    ∷ [])) ≡ Err (refusal.E8 (at_place 1 14) (codes "x"))
unfolding everything
limit_last = simp rolls refl
