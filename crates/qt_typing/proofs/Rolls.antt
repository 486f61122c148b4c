-- The definitions at the layers of a tree: what each says of a form, by what it says of the parts.
use Rattle.std.proofs.Common.{◌≡◌, ℕ, Bool, List, Option, refl, ap}
use Rattle.qt_const_rules.specs.declared.consts.Entry.{Entry}
use Rattle.qt_const_rules.specs.declared.modes.Mode.{Mode}
use Rattle.qt_const_rules.specs.declared.sorts.Sort.{Sort}
use Rattle.qt_value.specs.declared.constant.ConstValue.{ConstValue}
use Rattle.qt_const.specs.Value.{Reading, TypeReading, IndexReading, reading_of, index_reading, type_reading, range_reading}
use Rattle.qt_const.specs.Value as value
use Rattle.qt_tree.specs.declared.expression.Expr.{Expr, roll-Expr, out-Expr, out-roll-Expr}
use Rattle.qt_tree.specs.declared.expression.Index.{Index, roll-Index, out-Index, out-roll-Index}
use Rattle.qt_tree.specs.declared.expression.Scalar.{Scalar, roll-Scalar}
use Rattle.qt_tree.specs.declared.expression.Range.{Range, roll-Range}
use Rattle.qt_tree.specs.declared.expression.Expr.TheOpen as o
use Rattle.qt_tree.specs.declared.expression.Expr.TheFolds.{fold-Expr, fold-Index, fold-Scalar, fold-Range, fold-roll-Expr, fold-roll-Index, fold-roll-Scalar, fold-roll-Range, map-Expr, map-Index, map-Scalar, map-Range}
use Rattle.qt_tree.specs.declared.place.Place.{Place}
use Rattle.qt_tree.specs.declared.statement.Statement.{Statement, roll-Statement}
use Rattle.qt_tree.specs.declared.statement.StatementForm.{StatementForm, roll-StatementForm}
use Rattle.qt_tree.specs.declared.statement.StatementForm.TheOpen.{StatementForm-F, Statement-F}
use Rattle.qt_tree.specs.declared.statement.StatementForm.TheFolds.{fold-StatementForm, fold-Statement, fold-roll-StatementForm, fold-roll-Statement, map-StatementForm, map-Statement}
use Rattle.qt_typing.specs.declared.names.Names.{Names}
use Rattle.qt_typing.specs.declared.state.Around.{Around}
use Rattle.qt_typing.specs.declared.state.State.{State}
use Rattle.qt_typing.specs.Sorts.{sort_at, expr_sort, scalar_sort, is_fixed, expr_fixed, index_fixed}
use Rattle.qt_typing.specs.Indexes.{Part, IndexPart}
use Rattle.qt_typing.specs.Expressions.{part_of, index_part, expr_step, index_step, scalar_step, range_step}
use Rattle.qt_typing.specs.Tokens.{expr_tokens, index_tokens, scalar_tokens, range_tokens}
use Rattle.qt_typing.specs.Tokens as tokens
use Rattle.qt_typing.specs.Statements as s
use Rattle.qt_typing.specs.Statements.{form_step, statement_step, statement_typing, form_typing}

pub value_expr : (k : List Entry) → (layer : o.Expr-F Expr Index Scalar Range)
    → fold-Expr Reading IndexReading TypeReading IndexReading (value.expr_step k) value.index_step value.scalar_step value.range_step
    (roll-Expr layer) ≡ (value.expr_step k) (map-Expr Expr Index Scalar Range Reading IndexReading TypeReading IndexReading (fold-Expr
    Reading IndexReading TypeReading IndexReading (value.expr_step k) value.index_step value.scalar_step value.range_step) (fold-Index
    Reading IndexReading TypeReading IndexReading (value.expr_step k) value.index_step value.scalar_step value.range_step) (fold-Scalar
    Reading IndexReading TypeReading IndexReading (value.expr_step k) value.index_step value.scalar_step value.range_step) (fold-Range
    Reading IndexReading TypeReading IndexReading (value.expr_step k) value.index_step value.scalar_step value.range_step) layer)
value_expr k layer =
    fold-roll-Expr Reading IndexReading TypeReading IndexReading (value.expr_step k) value.index_step value.scalar_step
    value.range_step layer

pub value_index : (k : List Entry) → (layer : o.Index-F Expr Index Scalar Range)
    → fold-Index Reading IndexReading TypeReading IndexReading (value.expr_step k) value.index_step value.scalar_step value.range_step
    (roll-Index layer) ≡ value.index_step (map-Index Expr Index Scalar Range Reading IndexReading TypeReading IndexReading (fold-Expr
    Reading IndexReading TypeReading IndexReading (value.expr_step k) value.index_step value.scalar_step value.range_step) (fold-Index
    Reading IndexReading TypeReading IndexReading (value.expr_step k) value.index_step value.scalar_step value.range_step) (fold-Scalar
    Reading IndexReading TypeReading IndexReading (value.expr_step k) value.index_step value.scalar_step value.range_step) (fold-Range
    Reading IndexReading TypeReading IndexReading (value.expr_step k) value.index_step value.scalar_step value.range_step) layer)
value_index k layer =
    fold-roll-Index Reading IndexReading TypeReading IndexReading (value.expr_step k) value.index_step value.scalar_step
    value.range_step layer

pub value_scalar : (k : List Entry) → (layer : o.Scalar-F Expr Index Scalar Range)
    → fold-Scalar Reading IndexReading TypeReading IndexReading (value.expr_step k) value.index_step value.scalar_step value.range_step
    (roll-Scalar layer) ≡ value.scalar_step (map-Scalar Expr Index Scalar Range Reading IndexReading TypeReading IndexReading
    (fold-Expr Reading IndexReading TypeReading IndexReading (value.expr_step k) value.index_step value.scalar_step value.range_step)
    (fold-Index Reading IndexReading TypeReading IndexReading (value.expr_step k) value.index_step value.scalar_step value.range_step)
    (fold-Scalar Reading IndexReading TypeReading IndexReading (value.expr_step k) value.index_step value.scalar_step value.range_step)
    (fold-Range Reading IndexReading TypeReading IndexReading (value.expr_step k) value.index_step value.scalar_step value.range_step)
    layer)
value_scalar k layer =
    fold-roll-Scalar Reading IndexReading TypeReading IndexReading (value.expr_step k) value.index_step value.scalar_step
    value.range_step layer

pub value_range : (k : List Entry) (start step end : Option Expr) → fold-Range Reading IndexReading TypeReading IndexReading
    (value.expr_step k) value.index_step value.scalar_step value.range_step (roll-Range (record {
      start = start;
      step = step;
      end = end;
    })) ≡ value.range_step (map-Range Expr Index Scalar Range Reading IndexReading TypeReading IndexReading (fold-Expr Reading
    IndexReading TypeReading IndexReading (value.expr_step k) value.index_step value.scalar_step value.range_step) (fold-Index Reading
    IndexReading TypeReading IndexReading (value.expr_step k) value.index_step value.scalar_step value.range_step) (fold-Scalar Reading
    IndexReading TypeReading IndexReading (value.expr_step k) value.index_step value.scalar_step value.range_step) (fold-Range Reading
    IndexReading TypeReading IndexReading (value.expr_step k) value.index_step value.scalar_step value.range_step) (record {
      start =
          start;
      step = step;
      end = end;
    }))
value_range k start step end =
    fold-roll-Range Reading IndexReading TypeReading IndexReading (value.expr_step k) value.index_step value.scalar_step
    value.range_step (record { start = start; step = step; end = end })

pub sort_expr : (names : Names) → (layer : o.Expr-F Expr Index Scalar Range)
    → fold-Expr Sort (Unit {0}) Sort (Unit {0}) (expr_sort names) (λ index. tt) scalar_sort (λ range. tt) (roll-Expr layer)
    ≡ (expr_sort names) (map-Expr Expr Index Scalar Range Sort (Unit {0}) Sort (Unit {0}) (fold-Expr Sort (Unit {0}) Sort (Unit {0})
    (expr_sort names) (λ index. tt) scalar_sort (λ range. tt)) (fold-Index Sort (Unit {0}) Sort (Unit {0}) (expr_sort names) (λ index.
    tt) scalar_sort (λ range. tt)) (fold-Scalar Sort (Unit {0}) Sort (Unit {0}) (expr_sort names) (λ index. tt) scalar_sort (λ range.
    tt)) (fold-Range Sort (Unit {0}) Sort (Unit {0}) (expr_sort names) (λ index. tt) scalar_sort (λ range. tt)) layer)
sort_expr names layer = fold-roll-Expr Sort (Unit {0}) Sort (Unit {0}) (expr_sort names) (λ index. tt) scalar_sort (λ range. tt) layer

pub sort_index : (names : Names) → (layer : o.Index-F Expr Index Scalar Range)
    → fold-Index Sort (Unit {0}) Sort (Unit {0}) (expr_sort names) (λ index. tt) scalar_sort (λ range. tt) (roll-Index layer) ≡ tt
sort_index names layer = fold-roll-Index Sort (Unit {0}) Sort (Unit {0}) (expr_sort names) (λ index. tt) scalar_sort (λ range. tt) layer

pub sort_scalar : (names : Names) → (layer : o.Scalar-F Expr Index Scalar Range)
    → fold-Scalar Sort (Unit {0}) Sort (Unit {0}) (expr_sort names) (λ index. tt) scalar_sort (λ range. tt) (roll-Scalar layer)
    ≡ scalar_sort (map-Scalar Expr Index Scalar Range Sort (Unit {0}) Sort (Unit {0}) (fold-Expr Sort (Unit {0}) Sort (Unit {0})
    (expr_sort names) (λ index. tt) scalar_sort (λ range. tt)) (fold-Index Sort (Unit {0}) Sort (Unit {0}) (expr_sort names) (λ index.
    tt) scalar_sort (λ range. tt)) (fold-Scalar Sort (Unit {0}) Sort (Unit {0}) (expr_sort names) (λ index. tt) scalar_sort (λ range.
    tt)) (fold-Range Sort (Unit {0}) Sort (Unit {0}) (expr_sort names) (λ index. tt) scalar_sort (λ range. tt)) layer)
sort_scalar names layer = fold-roll-Scalar Sort (Unit {0}) Sort (Unit {0}) (expr_sort names) (λ index. tt) scalar_sort (λ range. tt) layer

pub sort_range : (names : Names) (start step end : Option Expr) → fold-Range Sort (Unit {0}) Sort (Unit {0}) (expr_sort names) (λ
    index. tt) scalar_sort (λ range. tt) (roll-Range (record { start = start; step = step; end = end })) ≡ tt
sort_range names start step end =
    fold-roll-Range Sort (Unit {0}) Sort (Unit {0}) (expr_sort names) (λ index. tt) scalar_sort (λ range. tt) (record {
      start =
          start;
      step = step;
      end = end;
    })

pub fixed_expr : (names : Names) → (layer : o.Expr-F Expr Index Scalar Range)
    → fold-Expr Bool Bool (Unit {0}) (Unit {0}) (expr_fixed names) index_fixed (λ scalar. tt) (λ range. tt) (roll-Expr layer)
    ≡ (expr_fixed names) (map-Expr Expr Index Scalar Range Bool Bool (Unit {0}) (Unit {0}) (fold-Expr Bool Bool (Unit {0}) (Unit {0})
    (expr_fixed names) index_fixed (λ scalar. tt) (λ range. tt)) (fold-Index Bool Bool (Unit {0}) (Unit {0}) (expr_fixed names)
    index_fixed (λ scalar. tt) (λ range. tt)) (fold-Scalar Bool Bool (Unit {0}) (Unit {0}) (expr_fixed names) index_fixed (λ scalar.
    tt) (λ range. tt)) (fold-Range Bool Bool (Unit {0}) (Unit {0}) (expr_fixed names) index_fixed (λ scalar. tt) (λ range. tt)) layer)
fixed_expr names layer = fold-roll-Expr Bool Bool (Unit {0}) (Unit {0}) (expr_fixed names) index_fixed (λ scalar. tt) (λ range. tt) layer

pub fixed_index : (names : Names) → (layer : o.Index-F Expr Index Scalar Range)
    → fold-Index Bool Bool (Unit {0}) (Unit {0}) (expr_fixed names) index_fixed (λ scalar. tt) (λ range. tt) (roll-Index layer)
    ≡ index_fixed (map-Index Expr Index Scalar Range Bool Bool (Unit {0}) (Unit {0}) (fold-Expr Bool Bool (Unit {0}) (Unit {0})
    (expr_fixed names) index_fixed (λ scalar. tt) (λ range. tt)) (fold-Index Bool Bool (Unit {0}) (Unit {0}) (expr_fixed names)
    index_fixed (λ scalar. tt) (λ range. tt)) (fold-Scalar Bool Bool (Unit {0}) (Unit {0}) (expr_fixed names) index_fixed (λ scalar.
    tt) (λ range. tt)) (fold-Range Bool Bool (Unit {0}) (Unit {0}) (expr_fixed names) index_fixed (λ scalar. tt) (λ range. tt)) layer)
fixed_index names layer = fold-roll-Index Bool Bool (Unit {0}) (Unit {0}) (expr_fixed names) index_fixed (λ scalar. tt) (λ range. tt) layer

pub fixed_scalar : (names : Names) → (layer : o.Scalar-F Expr Index Scalar Range)
    → fold-Scalar Bool Bool (Unit {0}) (Unit {0}) (expr_fixed names) index_fixed (λ scalar. tt) (λ range. tt) (roll-Scalar layer) ≡ tt
fixed_scalar names layer =
    fold-roll-Scalar Bool Bool (Unit {0}) (Unit {0}) (expr_fixed names) index_fixed (λ scalar. tt) (λ range. tt) layer

pub fixed_range : (names : Names) (start step end : Option Expr) → fold-Range Bool Bool (Unit {0}) (Unit {0}) (expr_fixed names)
    index_fixed (λ scalar. tt) (λ range. tt) (roll-Range (record { start = start; step = step; end = end })) ≡ tt
fixed_range names start step end =
    fold-roll-Range Bool Bool (Unit {0}) (Unit {0}) (expr_fixed names) index_fixed (λ scalar. tt) (λ range. tt) (record {
      start =
          start;
      step = step;
      end = end;
    })

pub part_expr : (names : Names) (place : Place) → (layer : o.Expr-F Expr Index Scalar Range)
    → fold-Expr Part IndexPart Scalar Range (expr_step names place) index_step scalar_step range_step (roll-Expr layer)
    ≡ (expr_step names place) (map-Expr Expr Index Scalar Range Part IndexPart Scalar Range (fold-Expr Part IndexPart Scalar Range
    (expr_step names place) index_step scalar_step range_step) (fold-Index Part IndexPart Scalar Range (expr_step names place)
    index_step scalar_step range_step) (fold-Scalar Part IndexPart Scalar Range (expr_step names place) index_step scalar_step
    range_step) (fold-Range Part IndexPart Scalar Range (expr_step names place) index_step scalar_step range_step) layer)
part_expr names place layer = fold-roll-Expr Part IndexPart Scalar Range (expr_step names place) index_step scalar_step range_step layer

pub part_index : (names : Names) (place : Place) → (layer : o.Index-F Expr Index Scalar Range)
    → fold-Index Part IndexPart Scalar Range (expr_step names place) index_step scalar_step range_step (roll-Index layer)
    ≡ index_step (map-Index Expr Index Scalar Range Part IndexPart Scalar Range (fold-Expr Part IndexPart Scalar Range (expr_step names
    place) index_step scalar_step range_step) (fold-Index Part IndexPart Scalar Range (expr_step names place) index_step scalar_step
    range_step) (fold-Scalar Part IndexPart Scalar Range (expr_step names place) index_step scalar_step range_step) (fold-Range Part
    IndexPart Scalar Range (expr_step names place) index_step scalar_step range_step) layer)
part_index names place layer = fold-roll-Index Part IndexPart Scalar Range (expr_step names place) index_step scalar_step range_step layer

pub part_scalar : (names : Names) (place : Place) → (layer : o.Scalar-F Expr Index Scalar Range)
    → fold-Scalar Part IndexPart Scalar Range (expr_step names place) index_step scalar_step range_step (roll-Scalar layer)
    ≡ scalar_step (map-Scalar Expr Index Scalar Range Part IndexPart Scalar Range (fold-Expr Part IndexPart Scalar Range (expr_step
    names place) index_step scalar_step range_step) (fold-Index Part IndexPart Scalar Range (expr_step names place) index_step
    scalar_step range_step) (fold-Scalar Part IndexPart Scalar Range (expr_step names place) index_step scalar_step range_step)
    (fold-Range Part IndexPart Scalar Range (expr_step names place) index_step scalar_step range_step) layer)
part_scalar names place layer = fold-roll-Scalar Part IndexPart Scalar Range (expr_step names place) index_step scalar_step range_step layer

pub part_range : (names : Names) (place : Place) (start step end : Option Expr)
    → fold-Range Part IndexPart Scalar Range (expr_step names place) index_step scalar_step range_step (roll-Range (record {
      start =
          start;
      step = step;
      end = end;
    })) ≡ range_step (map-Range Expr Index Scalar Range Part IndexPart Scalar Range (fold-Expr Part
    IndexPart Scalar Range (expr_step names place) index_step scalar_step range_step) (fold-Index Part IndexPart Scalar Range
    (expr_step names place) index_step scalar_step range_step) (fold-Scalar Part IndexPart Scalar Range (expr_step names place)
    index_step scalar_step range_step) (fold-Range Part IndexPart Scalar Range (expr_step names place) index_step scalar_step
    range_step) (record { start = start; step = step; end = end }))
part_range names place start step end =
    fold-roll-Range Part IndexPart Scalar Range (expr_step names place) index_step scalar_step range_step (record {
      start =
          start;
      step = step;
      end = end;
    })

pub tokens_expr : (layer : o.Expr-F Expr Index Scalar Range) → fold-Expr ℕ ℕ ℕ ℕ tokens.expr_step tokens.index_step tokens.scalar_step
    tokens.range_step (roll-Expr layer) ≡ tokens.expr_step (map-Expr Expr Index Scalar Range ℕ ℕ ℕ ℕ (fold-Expr ℕ ℕ ℕ ℕ
    tokens.expr_step tokens.index_step tokens.scalar_step tokens.range_step) (fold-Index ℕ ℕ ℕ ℕ tokens.expr_step tokens.index_step
    tokens.scalar_step tokens.range_step) (fold-Scalar ℕ ℕ ℕ ℕ tokens.expr_step tokens.index_step tokens.scalar_step tokens.range_step)
    (fold-Range ℕ ℕ ℕ ℕ tokens.expr_step tokens.index_step tokens.scalar_step tokens.range_step) layer)
tokens_expr layer = fold-roll-Expr ℕ ℕ ℕ ℕ tokens.expr_step tokens.index_step tokens.scalar_step tokens.range_step layer

pub tokens_index : (layer : o.Index-F Expr Index Scalar Range) → fold-Index ℕ ℕ ℕ ℕ tokens.expr_step tokens.index_step
    tokens.scalar_step tokens.range_step (roll-Index layer) ≡ tokens.index_step (map-Index Expr Index Scalar Range ℕ ℕ ℕ ℕ (fold-Expr ℕ
    ℕ ℕ ℕ tokens.expr_step tokens.index_step tokens.scalar_step tokens.range_step) (fold-Index ℕ ℕ ℕ ℕ tokens.expr_step
    tokens.index_step tokens.scalar_step tokens.range_step) (fold-Scalar ℕ ℕ ℕ ℕ tokens.expr_step tokens.index_step tokens.scalar_step
    tokens.range_step) (fold-Range ℕ ℕ ℕ ℕ tokens.expr_step tokens.index_step tokens.scalar_step tokens.range_step) layer)
tokens_index layer = fold-roll-Index ℕ ℕ ℕ ℕ tokens.expr_step tokens.index_step tokens.scalar_step tokens.range_step layer

pub tokens_scalar : (layer : o.Scalar-F Expr Index Scalar Range) → fold-Scalar ℕ ℕ ℕ ℕ tokens.expr_step tokens.index_step
    tokens.scalar_step tokens.range_step (roll-Scalar layer) ≡ tokens.scalar_step (map-Scalar Expr Index Scalar Range ℕ ℕ ℕ ℕ
    (fold-Expr ℕ ℕ ℕ ℕ tokens.expr_step tokens.index_step tokens.scalar_step tokens.range_step) (fold-Index ℕ ℕ ℕ ℕ tokens.expr_step
    tokens.index_step tokens.scalar_step tokens.range_step) (fold-Scalar ℕ ℕ ℕ ℕ tokens.expr_step tokens.index_step tokens.scalar_step
    tokens.range_step) (fold-Range ℕ ℕ ℕ ℕ tokens.expr_step tokens.index_step tokens.scalar_step tokens.range_step) layer)
tokens_scalar layer = fold-roll-Scalar ℕ ℕ ℕ ℕ tokens.expr_step tokens.index_step tokens.scalar_step tokens.range_step layer

pub tokens_range : (start step end : Option Expr) → fold-Range ℕ ℕ ℕ ℕ tokens.expr_step tokens.index_step tokens.scalar_step
    tokens.range_step (roll-Range (record { start = start; step = step; end = end }))
    ≡ tokens.range_step (map-Range Expr Index Scalar Range ℕ ℕ ℕ ℕ (fold-Expr ℕ ℕ ℕ ℕ tokens.expr_step tokens.index_step
    tokens.scalar_step tokens.range_step) (fold-Index ℕ ℕ ℕ ℕ tokens.expr_step tokens.index_step tokens.scalar_step tokens.range_step)
    (fold-Scalar ℕ ℕ ℕ ℕ tokens.expr_step tokens.index_step tokens.scalar_step tokens.range_step) (fold-Range ℕ ℕ ℕ ℕ tokens.expr_step
    tokens.index_step tokens.scalar_step tokens.range_step) (record { start = start; step = step; end = end }))
tokens_range start step end =
    fold-roll-Range ℕ ℕ ℕ ℕ tokens.expr_step tokens.index_step tokens.scalar_step tokens.range_step (record {
      start =
          start;
      step = step;
      end = end;
    })

-- ---- applied to what they read

pub value_applied : (k : List Entry) (m : Mode) (layer : o.Expr-F Expr Index Scalar Range)
    → (fold-Expr Reading IndexReading TypeReading IndexReading (value.expr_step k) value.index_step value.scalar_step value.range_step
    (roll-Expr layer)).value m ≡ (value.expr_step k (map-Expr Expr Index Scalar Range Reading IndexReading TypeReading IndexReading
    (fold-Expr Reading IndexReading TypeReading IndexReading (value.expr_step k) value.index_step value.scalar_step value.range_step)
    (fold-Index Reading IndexReading TypeReading IndexReading (value.expr_step k) value.index_step value.scalar_step value.range_step)
    (fold-Scalar Reading IndexReading TypeReading IndexReading (value.expr_step k) value.index_step value.scalar_step value.range_step)
    (fold-Range Reading IndexReading TypeReading IndexReading (value.expr_step k) value.index_step value.scalar_step value.range_step)
    layer)).value m
value_applied k m layer = ap (λ (r : Reading). r.value m) (value_expr k layer)

pub kind_applied : (k : List Entry) (m : Mode) (layer : o.Scalar-F Expr Index Scalar Range)
    → (fold-Scalar Reading IndexReading TypeReading IndexReading (value.expr_step k) value.index_step value.scalar_step
    value.range_step (roll-Scalar layer)).kind m ≡ (value.scalar_step (map-Scalar Expr Index Scalar Range Reading IndexReading
    TypeReading IndexReading (fold-Expr Reading IndexReading TypeReading IndexReading (value.expr_step k) value.index_step
    value.scalar_step value.range_step) (fold-Index Reading IndexReading TypeReading IndexReading (value.expr_step k) value.index_step
    value.scalar_step value.range_step) (fold-Scalar Reading IndexReading TypeReading IndexReading (value.expr_step k) value.index_step
    value.scalar_step value.range_step) (fold-Range Reading IndexReading TypeReading IndexReading (value.expr_step k) value.index_step
    value.scalar_step value.range_step) layer)).kind m
kind_applied k m layer = ap (λ (r : TypeReading). r.kind m) (value_scalar k layer)

pub index_applied : (k : List Entry) (m : Mode) (c : ConstValue) (layer : o.Index-F Expr Index Scalar Range)
    → fold-Index Reading IndexReading TypeReading IndexReading (value.expr_step k) value.index_step value.scalar_step value.range_step
    (roll-Index layer) m c ≡ value.index_step (map-Index Expr Index Scalar Range Reading IndexReading TypeReading IndexReading
    (fold-Expr Reading IndexReading TypeReading IndexReading (value.expr_step k) value.index_step value.scalar_step value.range_step)
    (fold-Index Reading IndexReading TypeReading IndexReading (value.expr_step k) value.index_step value.scalar_step value.range_step)
    (fold-Scalar Reading IndexReading TypeReading IndexReading (value.expr_step k) value.index_step value.scalar_step value.range_step)
    (fold-Range Reading IndexReading TypeReading IndexReading (value.expr_step k) value.index_step value.scalar_step value.range_step)
    layer) m c
index_applied k m c layer = ap (λ (r : IndexReading). r m c) (value_index k layer)

pub range_applied : (k : List Entry) (m : Mode) (c : ConstValue) (start step end : Option Expr)
    → fold-Range Reading IndexReading TypeReading IndexReading (value.expr_step k) value.index_step value.scalar_step value.range_step
    (roll-Range (record { start = start; step = step; end = end })) m c
    ≡ value.range_step (map-Range Expr Index Scalar Range Reading IndexReading TypeReading IndexReading (fold-Expr Reading IndexReading
    TypeReading IndexReading (value.expr_step k) value.index_step value.scalar_step value.range_step) (fold-Index Reading IndexReading
    TypeReading IndexReading (value.expr_step k) value.index_step value.scalar_step value.range_step) (fold-Scalar Reading IndexReading
    TypeReading IndexReading (value.expr_step k) value.index_step value.scalar_step value.range_step) (fold-Range Reading IndexReading
    TypeReading IndexReading (value.expr_step k) value.index_step value.scalar_step value.range_step) (record {
      start = start;
      step =
          step;
      end = end;
    })) m c
range_applied k m c start step end = ap (λ (r : IndexReading). r m c) (value_range k start step end)

pub typed_applied : (names : Names) (place : Place) (m : Mode) (layer : o.Expr-F Expr Index Scalar Range)
    → (fold-Expr Part IndexPart Scalar Range (expr_step names place) index_step scalar_step range_step (roll-Expr layer)).typed m
    ≡ (expr_step names place (map-Expr Expr Index Scalar Range Part IndexPart Scalar Range (fold-Expr Part IndexPart Scalar Range
    (expr_step names place) index_step scalar_step range_step) (fold-Index Part IndexPart Scalar Range (expr_step names place)
    index_step scalar_step range_step) (fold-Scalar Part IndexPart Scalar Range (expr_step names place) index_step scalar_step
    range_step) (fold-Range Part IndexPart Scalar Range (expr_step names place) index_step scalar_step range_step) layer)).typed m
typed_applied names place m layer = ap (λ (p : Part). p.typed m) (part_expr names place layer)

pub form_rolls : (layer : StatementForm-F StatementForm Statement) (place : Place) (around : Around) (state : State)
    → form_typing (roll-StatementForm layer) place around state ≡ form_step (map-StatementForm StatementForm Statement (Place
    → s.Reading) s.Reading form_typing statement_typing layer) place around state
form_rolls layer place around state =
    ap (λ (f : Place → s.Reading). f place around state) (fold-roll-StatementForm (Place
    → s.Reading) s.Reading form_step statement_step layer)

pub statement_rolls : (place : Place) (form : StatementForm) (around : Around) (state : State)
    → statement_typing (roll-Statement (record { place = place; form = form })) around state ≡ form_typing form place around state
statement_rolls place form around state =
    ap (λ (f : s.Reading). f around state) (fold-roll-Statement (Place → s.Reading) s.Reading form_step statement_step (record {
      place =
          place;
      form = form;
    }))

pub expr_layer : (layer : o.Expr-F Expr Index Scalar Range) → out-Expr (roll-Expr layer) ≡ layer
expr_layer layer = out-roll-Expr layer

pub index_layer : (layer : o.Index-F Expr Index Scalar Range) → out-Index (roll-Index layer) ≡ layer
index_layer layer = out-roll-Index layer

pub ruleset rolls = (
  expr_layer,
  index_layer,
  value_applied,
  kind_applied,
  index_applied,
  range_applied,
  typed_applied,
  value_expr,
  value_index,
  value_scalar,
  value_range,
  sort_expr,
  sort_index,
  sort_scalar,
  sort_range,
  fixed_expr,
  fixed_index,
  fixed_scalar,
  fixed_range,
  part_expr,
  part_index,
  part_scalar,
  part_range,
  tokens_expr,
  tokens_index,
  tokens_scalar,
  tokens_range,
  form_rolls,
  statement_rolls,
)
