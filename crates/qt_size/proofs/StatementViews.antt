-- The size of a statement by its bodies as lists.
use Rattle.std.proofs.Common.{◌≡◌, ℕ, ◌+◌, List, refl, ap, sym, ◌∙◌, arith}
use Rattle.qt_gate_calls.specs.Stopped.{stopped}
use Rattle.qt_typed.specs.declared.call.Span.{Span}
use Rattle.qt_typed.specs.declared.expression.TypedExpr.{TypedExpr}
use Rattle.qt_typed.specs.declared.statement.Spot.{Spot}
use Rattle.qt_typed.specs.declared.statement.TypedLoop.{TypedLoop}
use Rattle.qt_typed.specs.declared.statement.TypedStatement.{TypedStatement, Row_of-TypedStatement, end_of-TypedStatement, more_of-TypedStatement, items-the_row-TypedStatement, items_shown-the_row-TypedStatement-0, out-TypedStatement}
use Rattle.qt_typed.specs.declared.statement.TypedStatement.TheVariants as t
use Rattle.qt_typed.specs.declared.statement.TypedStatement.TheOpen as o
use Rattle.qt_typed.specs.Choices.{Counts}
use Rattle.qt_typed.specs.Size.{action_size, size, row_size, list_size}

together : (n a b c d : ℕ) → a ≡ c → b ≡ d → n + (a + b) ≡ n + (c + d)
together n a b c d e f = omega (arith, e, f)

module _ (z : Counts) where
  row_is : {n : _} (row : Row_of-TypedStatement n) → row_size z row ≡ list_size z (items-the_row-TypedStatement n row)
  row_is end_of-TypedStatement = refl
  row_is (more_of-TypedStatement s rest) = ap (λ m. size z s + m) (row_is rest)

  -- what a statement counts, by what it is
  abbrev of_layer : o.TypedStatement-F TypedStatement → ℕ
  of_layer (o.Simple at action) = at.tokens + action_size z action
  of_layer (o.If at condition body body_slots otherwise otherwise_slots) = at.tokens + (list_size z body + list_size z otherwise)
  of_layer (o.Loop at over loop_slots body body_slots) = at.tokens + list_size z body

  size_is : (s : TypedStatement) → size z s ≡ of_layer (out-TypedStatement s)
  size_is (t.Simple at action) = ap of_layer (sym (t.outs-Simple at action))
  size_is (t.If' at condition shape body body_slots other_shape otherwise otherwise_slots) =
      together at.tokens _ _ _ _ (row_is body ∙ ap (list_size z) (sym (items_shown-the_row-TypedStatement-0 shape body)))
      (row_is otherwise ∙ ap (list_size z) (sym (items_shown-the_row-TypedStatement-0 other_shape otherwise)))
      ∙ ap of_layer (sym (t.outs-If' at condition shape body body_slots other_shape otherwise otherwise_slots))
  size_is (t.Loop' at over loop_slots shape body body_slots) =
      ap (λ n. at.tokens + n) (row_is body ∙ ap (list_size z) (sym (items_shown-the_row-TypedStatement-0 shape body)))
      ∙ ap of_layer (sym (t.outs-Loop' at over loop_slots shape body body_slots))

  branch_size : (at : Spot) (condition : TypedExpr) (body : List TypedStatement) (body_slots : Span) (otherwise : List TypedStatement)
      (otherwise_slots : Span)
      → size z (t.If at condition body body_slots otherwise otherwise_slots) ≡ at.tokens + (list_size z body + list_size z otherwise)
  branch_size at condition body body_slots otherwise otherwise_slots =
      size_is (t.If at condition body body_slots otherwise otherwise_slots)
      ∙ ap of_layer (t.outs-If at condition body body_slots otherwise otherwise_slots)

  loop_size : (at : Spot) (over : TypedLoop) (loop_slots : Span) (body : List TypedStatement) (body_slots : Span)
      → size z (t.Loop at over loop_slots body body_slots) ≡ at.tokens + list_size z body
  loop_size at over loop_slots body body_slots =
      size_is (t.Loop at over loop_slots body body_slots) ∙ ap of_layer (t.outs-Loop at over loop_slots body body_slots)

  pub branch_counted : (s : TypedStatement) (at : Spot) (condition : TypedExpr) (body : List TypedStatement) (body_slots : Span)
      (otherwise : List TypedStatement) (otherwise_slots : Span) (result : ℕ)
      → s ≡ t.If at condition body body_slots otherwise otherwise_slots
      → result ≡ stopped (at.tokens + (list_size z body + list_size z otherwise)) → result ≡ stopped (size z s)
  branch_counted s at condition body body_slots otherwise otherwise_slots result is counted =
      counted ∙ ap stopped (sym (ap (size z) is ∙ branch_size at condition body body_slots otherwise otherwise_slots))

  pub loop_counted : (s : TypedStatement) (at : Spot) (over : TypedLoop) (loop_slots : Span) (body : List TypedStatement)
      (body_slots : Span) (result : ℕ) → s ≡ t.Loop at over loop_slots body body_slots
      → result ≡ stopped (at.tokens + list_size z body) → result ≡ stopped (size z s)
  loop_counted s at over loop_slots body body_slots result is counted =
      counted ∙ ap stopped (sym (ap (size z) is ∙ loop_size at over loop_slots body body_slots))
