-- Statements by their bodies as lists.
use Rattle.std.proofs.Common.{◌≡◌, ℕ, List, refl, ap, sym, subst, ◌∙◌, Option}
use Rattle.std.specs.Prelude.{Bool, ◌||◌, Result, IfOk}
use Rattle.std.specs.Option.{option_or}
use Rattle.qt_outside.specs.declared.faults.OutOfMemory.{OutOfMemory}
use Rattle.qt_typed.specs.declared.call.Span.{Span}
use Rattle.qt_typed.specs.declared.expression.TypedExpr.{TypedExpr}
use Rattle.qt_typed.specs.declared.statement.Spot.{Spot}
use Rattle.qt_typed.specs.declared.statement.TypedLoop.{TypedLoop}
use Rattle.qt_typed.specs.declared.statement.TypedStatement.{TypedStatement, Row_of-TypedStatement, end_of-TypedStatement, more_of-TypedStatement, items-the_row-TypedStatement, items_shown-the_row-TypedStatement-0, out-TypedStatement}
use Rattle.qt_typed.specs.declared.statement.TypedStatement.TheVariants as t
use Rattle.qt_typed.specs.declared.statement.TypedStatement.TheOpen as o
use Rattle.qt_fixed_angles.specs.declared.wrong.WrongAngle.{WrongAngle}
use Rattle.qt_fixed_angles.specs.Angles.{Angles, action_angle, angle, row_angle, list_angle}
use Rattle.qt_fixed_angles.specs.Reached.{Marks, action_calls, calls, row_calls, list_calls}

pub two_same : {A B : Type 0} (f : A → A → B) (a b c d : A) → a ≡ c → b ≡ d → f a b ≡ f c d
two_same f a b c d e h = ap (λ x. f x b) e ∙ ap (f c) h

-- ---- angles

module _ (z : Angles) where
  angles_row : {n : _} (row : Row_of-TypedStatement n) → row_angle z row ≡ list_angle z (items-the_row-TypedStatement n row)
  angles_row end_of-TypedStatement = refl
  angles_row (more_of-TypedStatement s rest) = ap (option_or (angle z s)) (angles_row rest)

  -- the angle of a statement, by what it is
  abbrev layer_angle : o.TypedStatement-F TypedStatement → Option WrongAngle
  layer_angle (o.Simple at action) = action_angle z action
  layer_angle (o.If at condition body body_slots otherwise otherwise_slots) = option_or (list_angle z body) (list_angle z otherwise)
  layer_angle (o.Loop at over loop_slots body body_slots) = list_angle z body

  angle_is : (s : TypedStatement) → angle z s ≡ layer_angle (out-TypedStatement s)
  angle_is (t.Simple at action) = ap layer_angle (sym (t.outs-Simple at action))
  angle_is (t.If' at condition shape body body_slots other_shape otherwise otherwise_slots) =
      two_same option_or (row_angle z body) (row_angle z otherwise) _ _
      (angles_row body ∙ ap (list_angle z) (sym (items_shown-the_row-TypedStatement-0 shape body)))
      (angles_row otherwise ∙ ap (list_angle z) (sym (items_shown-the_row-TypedStatement-0 other_shape otherwise)))
      ∙ ap layer_angle (sym (t.outs-If' at condition shape body body_slots other_shape otherwise otherwise_slots))
  angle_is (t.Loop' at over loop_slots shape body body_slots) =
      angles_row body ∙ ap (list_angle z) (sym (items_shown-the_row-TypedStatement-0 shape body))
      ∙ ap layer_angle (sym (t.outs-Loop' at over loop_slots shape body body_slots))

  pub branch_found : (s : TypedStatement) (at : Spot) (condition : TypedExpr) (body : List TypedStatement) (body_slots : Span)
      (otherwise : List TypedStatement) (otherwise_slots : Span) (result : Result (Option WrongAngle) OutOfMemory)
      → s ≡ t.If at condition body body_slots otherwise otherwise_slots
      → IfOk result (λ a. a ≡ option_or (list_angle z body) (list_angle z otherwise)) → IfOk result (λ a. a ≡ angle z s)
  branch_found s at condition body body_slots otherwise otherwise_slots result is found =
      let e : angle z s ≡ option_or (list_angle z body) (list_angle z otherwise) =
      ap (angle z) is ∙ angle_is (t.If at condition body body_slots otherwise otherwise_slots)
      ∙ ap layer_angle (t.outs-If at condition body body_slots otherwise otherwise_slots) in
      subst (λ v. IfOk result (λ a. a ≡ v)) (sym e) found

  pub loop_found : (s : TypedStatement) (at : Spot) (over : TypedLoop) (loop_slots : Span) (body : List TypedStatement)
      (body_slots : Span) (result : Result (Option WrongAngle) OutOfMemory) → s ≡ t.Loop at over loop_slots body body_slots
      → IfOk result (λ a. a ≡ list_angle z body) → IfOk result (λ a. a ≡ angle z s)
  loop_found s at over loop_slots body body_slots result is found =
      let e : angle z s ≡ list_angle z body =
      ap (angle z) is ∙ angle_is (t.Loop at over loop_slots body body_slots)
      ∙ ap layer_angle (t.outs-Loop at over loop_slots body body_slots) in
      subst (λ v. IfOk result (λ a. a ≡ v)) (sym e) found

-- ---- calls

module _ (i : ℕ) where
  calls_row : {n : _} (row : Row_of-TypedStatement n) → row_calls row i ≡ list_calls (items-the_row-TypedStatement n row) i
  calls_row end_of-TypedStatement = refl
  calls_row (more_of-TypedStatement s rest) = ap (λ b. calls s i || b) (calls_row rest)

  -- whether a statement calls a subroutine, by what it is
  abbrev layer_calls : o.TypedStatement-F TypedStatement → Bool
  layer_calls (o.Simple at action) = action_calls action i
  layer_calls (o.If at condition body body_slots otherwise otherwise_slots) = list_calls body i || list_calls otherwise i
  layer_calls (o.Loop at over loop_slots body body_slots) = list_calls body i

  calls_is : (s : TypedStatement) → calls s i ≡ layer_calls (out-TypedStatement s)
  calls_is (t.Simple at action) = ap layer_calls (sym (t.outs-Simple at action))
  calls_is (t.If' at condition shape body body_slots other_shape otherwise otherwise_slots) =
      two_same (λ a b. a || b) (row_calls body i) (row_calls otherwise i) _ _
      (calls_row body ∙ ap (λ ss. list_calls ss i) (sym (items_shown-the_row-TypedStatement-0 shape body)))
      (calls_row otherwise ∙ ap (λ ss. list_calls ss i) (sym (items_shown-the_row-TypedStatement-0 other_shape otherwise)))
      ∙ ap layer_calls (sym (t.outs-If' at condition shape body body_slots other_shape otherwise otherwise_slots))
  calls_is (t.Loop' at over loop_slots shape body body_slots) =
      calls_row body ∙ ap (λ ss. list_calls ss i) (sym (items_shown-the_row-TypedStatement-0 shape body))
      ∙ ap layer_calls (sym (t.outs-Loop' at over loop_slots shape body body_slots))

-- marks of the same calls
same_marks : (below : ℕ) (old new : List Bool) (f g : ℕ → Bool) → ((i : ℕ) → g i ≡ f i) → Marks below old new f → Marks below old new g
same_marks below old new f g same m =
    record { kept = m.kept; set = λ i h e. m.set i h (sym (same i) ∙ e); behind = m.behind }

pub branch_marked : (below : ℕ) (old new : List Bool) (s : TypedStatement) (at : Spot) (condition : TypedExpr) (body : List TypedStatement)
    (body_slots : Span) (otherwise : List TypedStatement) (otherwise_slots : Span)
    → s ≡ t.If at condition body body_slots otherwise otherwise_slots
    → Marks below old new (λ i. list_calls body i || list_calls otherwise i) → Marks below old new (calls s)
branch_marked below old new s at condition body body_slots otherwise otherwise_slots is m =
    same_marks below old new (λ i. list_calls body i || list_calls otherwise i) (calls s)
    (λ i. ap (λ x. calls x i) is ∙ calls_is i (t.If at condition body body_slots otherwise otherwise_slots)
    ∙ ap (layer_calls i) (t.outs-If at condition body body_slots otherwise otherwise_slots))
    m

pub loop_marked : (below : ℕ) (old new : List Bool) (s : TypedStatement) (at : Spot) (over : TypedLoop) (loop_slots : Span)
    (body : List TypedStatement) (body_slots : Span) → s ≡ t.Loop at over loop_slots body body_slots
    → Marks below old new (list_calls body) → Marks below old new (calls s)
loop_marked below old new s at over loop_slots body body_slots is m =
    same_marks below old new (list_calls body) (calls s)
    (λ i. ap (λ x. calls x i) is ∙ calls_is i (t.Loop at over loop_slots body body_slots)
    ∙ ap (layer_calls i) (t.outs-Loop at over loop_slots body body_slots))
    m
