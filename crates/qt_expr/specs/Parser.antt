-- What the functions that read expressions answer: the grammar's reader of a form from the left, over the terminals of a
-- text's tokens, with at most 256 operators in an expression. OpenQASM 3.0, the grammar in the appendix of the live specification.
use Rattle.std.specs.Prelude.{ℕ, ◌+◌, List, [], ◌∷◌, ◌++◌, length, drop, Option, None}
use Rattle.qt_tree.specs.declared.expression.Expr.{Expr}
use Rattle.qt_tree.specs.declared.expression.Scalar.{Scalar}
use Rattle.qt_tree.specs.declared.expression.Index.{Index}
use Rattle.qt_tree.specs.declared.expression.Range.{Range}
use Rattle.qt_terminals.specs.declared.terminal.Terminal.{Terminal}
use Rattle.qt_terminals.specs.declared.terminal.Terminal.TheVariants as w
use Rattle.qt_terminals.specs.Alphabet.{code}
use Rattle.qt_terminals.specs.Terminals.{PlacedTerminal, stream}
use Rattle.qt_grammar.specs.Sorts.{Sort, Value, Name, sort, nothing, label, expr, index, range, range_tail, optional, both, any, unary, an_index, a_range, a_set, in_sizeof}
use Rattle.qt_grammar.specs.Form.{Form, operator, empty, as_tree, then_, maybe, named, member, terminal_at}
use Rattle.qt_grammar.specs.Lookahead.{first}
use Rattle.qt_grammar.specs.Outcome.{Outcome}
pub use Rattle.qt_grammar.specs.Outcome.{Says}
use Rattle.qt_grammar.specs.Reading.{run, run_to, rest_of}
use Rattle.qt_grammar.specs.Language.{◌⊗◌, ◌⊳◌}
use Rattle.qt_grammar.specs.Language as g
use Rattle.qt_lookahead.specs.OneToken.{cap}

module _ (tokens : List PlacedTerminal) where
  abbrev pub named_to : ℕ → (n : Name) → Option ℕ → ℕ → Outcome (Value (sort n))
  named_to levels = run_to (stream tokens) cap (length tokens) levels

  -- a form, with so many levels below it, and so many operators before the outermost expression round it
  abbrev pub reading : {s : Sort} → ℕ → Form s → Option ℕ → ℕ → Outcome (Value s)
  reading levels f outer at = run (stream tokens) cap (length tokens) (named_to levels) f outer at

  -- the rest of a list: one more as long as a token of this terminal comes
  unfoldable pub rest_separated : {s : Sort} → Terminal → Form s → ℕ → Option ℕ → ℕ → List (Value s) → ℕ → Outcome (List (Value s))
  rest_separated k f levels outer turns all at = rest_of (λ i. member (terminal_at (stream tokens) i) (code k ∷ [])) (λ xs c x. xs ++ x ∷ []) (reading levels f outer) (reading levels (g.exactly k) outer) turns all at

  -- the rest of a list with nothing between: one more as long as a token comes that one begins with
  unfoldable pub rest_some : {s : Sort} → Form s → ℕ → Option ℕ → ℕ → List (Value s) → ℕ → Outcome (List (Value s))
  rest_some f levels outer turns all at = rest_of (λ i. member (terminal_at (stream tokens) i) (first f)) (λ xs c x. xs ++ x ∷ []) (reading levels f outer) (reading levels (empty {s = nothing} tt) outer) turns all at

  -- ---- names

  unfoldable pub read_label : ℕ → Outcome (List ℕ)
  read_label at = reading 0 g.a_label None at

  unfoldable pub read_names : ℕ → Outcome (List (List ℕ))
  read_names at = reading 0 g.names None at

  -- ---- expressions

  unfoldable pub read_expression : ℕ → Option ℕ → ℕ → Outcome Expr
  read_expression levels outer at = reading levels g.expression outer at

  unfoldable pub read_expressions : ℕ → Option ℕ → ℕ → Outcome (List Expr)
  read_expressions levels outer at = reading levels g.expressions outer at

  unfoldable pub read_any : ℕ → Option ℕ → ℕ → Outcome Expr
  read_any levels outer at = named_to levels any outer at

  unfoldable pub read_unary : ℕ → Option ℕ → ℕ → Outcome Expr
  read_unary levels outer at = named_to levels unary outer at

  -- operands with operators of this strength or a greater one between
  unfoldable pub read_operation : ℕ → Option ℕ → ℕ → ℕ → Outcome Expr
  read_operation levels outer strength at = reading levels (g.tower (drop strength g.levels)) outer at

  -- what stands behind the first operands, with operators of this strength between
  unfoldable pub read_more_operands : ℕ → Option ℕ → ℕ → ℕ → Expr → ℕ → Outcome Expr
  read_more_operands levels outer strength turns left at = rest_of (λ i. member (terminal_at (stream tokens) i) (g.ops_at strength)) g.joined (read_operation levels outer (strength + 1)) (reading levels (operator (g.ops_at strength)) outer) turns left at

  unfoldable pub read_factor : ℕ → Option ℕ → ℕ → Outcome Expr
  read_factor levels outer at = reading levels g.factor outer at

  unfoldable pub read_power : ℕ → Option ℕ → ℕ → Outcome Expr
  read_power levels outer at = reading levels g.power outer at

  -- the exponent behind a primary, if there is one
  unfoldable pub read_exponent_or_none : ℕ → Option ℕ → ℕ → Outcome (Option Expr)
  read_exponent_or_none levels outer at = reading levels (maybe {s = expr} (g.exactly_operator w.StarStar ⊳ named unary)) outer at

  unfoldable pub read_primary : ℕ → Option ℕ → ℕ → Outcome Expr
  read_primary levels outer at = reading levels g.primary outer at

  unfoldable pub read_literal : ℕ → Outcome Expr
  read_literal at = reading 0 g.literals None at

  unfoldable pub read_in_parentheses : ℕ → Option ℕ → ℕ → Outcome Expr
  read_in_parentheses levels outer at = reading levels (g.parens {s = expr} (named any)) outer at

  unfoldable pub read_parenthesized : ℕ → Option ℕ → ℕ → Outcome Expr
  read_parenthesized levels outer at = reading levels g.parenthesized outer at

  unfoldable pub read_size : ℕ → Option ℕ → ℕ → Outcome Expr
  read_size levels outer at = reading levels g.size outer at

  unfoldable pub read_arguments : ℕ → Option ℕ → ℕ → Outcome (List Expr)
  read_arguments levels outer at = reading levels g.arguments outer at

  unfoldable pub read_list_or_none : ℕ → Option ℕ → ℕ → Outcome (List Expr)
  read_list_or_none levels outer at = reading levels (g.or_none {s = expr} (g.commas {s = expr} (named any))) outer at

  -- expressions with commas between, each one level deeper
  unfoldable pub read_list : ℕ → Option ℕ → ℕ → Outcome (List Expr)
  read_list levels outer at = reading levels (g.commas {s = expr} (named any)) outer at

  unfoldable pub read_scalar : ℕ → Option ℕ → ℕ → Outcome Scalar
  read_scalar levels outer at = reading levels g.a_scalar outer at

  -- the size behind the terminal of a scalar, if there is one
  unfoldable pub read_sized : ℕ → Option ℕ → ℕ → Outcome (Option Expr)
  read_sized levels outer at = reading levels (maybe {s = expr} g.size) outer at

  unfoldable pub read_cast : ℕ → Option ℕ → ℕ → Outcome Expr
  read_cast levels outer at = reading levels g.cast outer at

  unfoldable pub read_size_of : ℕ → Option ℕ → ℕ → Outcome Expr
  read_size_of levels outer at = reading levels g.size_of outer at

  unfoldable pub read_in_size_of : ℕ → Option ℕ → ℕ → Outcome (List ℕ × Option Expr)
  read_in_size_of levels outer at = named_to levels in_sizeof outer at

  -- the dimension of a name in `sizeof`, if there is one; the name with it in their parentheses
  unfoldable pub read_dimension_or_none : ℕ → Option ℕ → ℕ → Outcome (Option Expr)
  read_dimension_or_none levels outer at = reading levels (maybe {s = expr} (g.exactly w.Comma ⊳ g.expression)) outer at

  unfoldable pub read_measured_name : ℕ → Option ℕ → ℕ → Outcome (List ℕ × Option Expr)
  read_measured_name levels outer at = reading levels (g.parens {s = both label (optional expr)} (named in_sizeof)) outer at

  unfoldable pub read_dimension : ℕ → Option ℕ → ℕ → Outcome (List ℕ × Option Expr)
  read_dimension levels outer at = reading levels (g.rule in_sizeof) outer at

  unfoldable pub read_name : ℕ → Option ℕ → ℕ → Outcome Expr
  read_name levels outer at = reading levels g.name_expr outer at

  -- ---- indexes, ranges, sets

  unfoldable pub read_indexes : ℕ → Option ℕ → ℕ → Outcome (List Index)
  read_indexes levels outer at = reading levels g.indexes outer at

  unfoldable pub read_index_list : ℕ → Option ℕ → ℕ → Outcome (List Index)
  read_index_list levels outer at = reading levels (g.commas {s = index} (named an_index)) outer at

  unfoldable pub read_all_indexes : ℕ → Option ℕ → ℕ → Outcome (List (List Index))
  read_all_indexes levels outer at = reading levels g.all_indexes outer at

  -- what stands in the brackets of an index
  unfoldable pub read_index : ℕ → Option ℕ → ℕ → Outcome Index
  read_index levels outer at = named_to levels an_index outer at

  unfoldable pub read_place_or_range : ℕ → Option ℕ → ℕ → Outcome Index
  read_place_or_range levels outer at = reading levels (then_ {s = expr} {t = optional range_tail} {u = index} g.place_or_range g.expression (maybe g.behind_start)) outer at

  unfoldable pub read_index_form : ℕ → Option ℕ → ℕ → Outcome Index
  read_index_form levels outer at = reading levels g.index_form outer at

  -- a range behind its first colon: what stands behind the next colon, that with the expression before it, and both if there
  -- are any
  unfoldable pub read_last_bound : ℕ → Option ℕ → ℕ → Outcome (Option (Option Expr))
  read_last_bound levels outer at = reading levels (maybe {s = optional expr} (g.exactly w.Colon ⊳ maybe g.expression)) outer at

  unfoldable pub read_bounds : ℕ → Option ℕ → ℕ → Outcome (Expr × Option (Option Expr))
  read_bounds levels outer at = reading levels (g.expression ⊗ maybe {s = optional expr} (g.exactly w.Colon ⊳ maybe g.expression)) outer at

  unfoldable pub read_bounds_or_none : ℕ → Option ℕ → ℕ → Outcome (Option (Expr × Option (Option Expr)))
  read_bounds_or_none levels outer at = reading levels (maybe {s = both expr (optional (optional expr))} (g.expression ⊗ maybe {s = optional expr} (g.exactly w.Colon ⊳ maybe g.expression))) outer at

  -- a range from its colon on, behind its start
  unfoldable pub read_behind_start : ℕ → Option ℕ → Option Expr → ℕ → Outcome Range
  read_behind_start levels outer start at = reading levels (as_tree {s = range_tail} {t = range} (λ tail. tail start) g.behind_start) outer at

  unfoldable pub read_expression_or_none : ℕ → Option ℕ → ℕ → Outcome (Option Expr)
  read_expression_or_none levels outer at = reading levels (maybe g.expression) outer at

  unfoldable pub read_range_form : ℕ → Option ℕ → ℕ → Outcome Range
  read_range_form levels outer at = reading levels g.range_form outer at

  -- what stands in the brackets of a range
  unfoldable pub read_range : ℕ → Option ℕ → ℕ → Outcome Range
  read_range levels outer at = named_to levels a_range outer at

  -- what stands in the braces of a set
  unfoldable pub read_members : ℕ → Option ℕ → ℕ → Outcome (List Expr)
  read_members levels outer at = named_to levels a_set outer at

  unfoldable pub read_set : ℕ → Option ℕ → ℕ → Outcome (List Expr)
  read_set levels outer at = reading levels g.set outer at
