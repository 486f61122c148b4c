-- What the functions that read programs answer: the grammar's reader of a form from the left, over the terminals of a
-- text's tokens. No expression stands round these forms. OpenQASM 3.0, the grammar in the appendix of the live specification.
use Rattle.std.specs.Prelude.{ℕ, List, [], ◌∷◌, Option, None}
use Rattle.qt_tree.specs.declared.place.Place.{Place}
use Rattle.qt_tree.specs.declared.expression.Scalar.{Scalar}
use Rattle.qt_tree.specs.declared.statement.Sequence.{Sequence}
use Rattle.qt_tree.specs.declared.statement.Statement.{Statement}
use Rattle.qt_tree.specs.declared.statement.StatementForm.{StatementForm}
use Rattle.qt_tree.specs.declared.program.Program.{Program}
use Rattle.qt_tree.specs.declared.program.Version.{Version}
use Rattle.qt_tree.specs.declared.program.VersionNumber.{VersionNumber}
use Rattle.qt_tree.specs.declared.program.Item.{Item}
use Rattle.qt_tree.specs.declared.program.Parameter.{Parameter}
use Rattle.qt_terminals.specs.declared.terminal.Terminal.TheVariants as w
use Rattle.qt_terminals.specs.Alphabet.{code}
use Rattle.qt_terminals.specs.Terminals.{PlacedTerminal}
use Rattle.qt_grammar.specs.Sorts.{scalar, statement, parameter, item, version, several, optional, any, block, single, parameters}
use Rattle.qt_grammar.specs.Form.{as_tree, maybe, nearest, named}
use Rattle.qt_grammar.specs.Outcome.{Outcome}
use Rattle.qt_grammar.specs.Language.{◌⊗◌, ◌⊳◌}
use Rattle.qt_grammar.specs.Language as g
use Rattle.qt_expr.specs.Parser.{reading, named_to}
use Rattle.qt_simple_statements.specs.Parser.{applied}

module _ (tokens : List PlacedTerminal) where
  -- ---- bodies, and the statements that have one

  -- the statements in the braces of a body, within so many levels
  unfoldable pub read_block : ℕ → ℕ → Outcome (List Statement)
  read_block levels at = named_to tokens levels block None at

  unfoldable pub read_statements : ℕ → ℕ → Outcome (List Statement)
  read_statements levels at = reading tokens levels (g.some {s = statement} g.a_statement) None at

  -- the single statement that is a body
  unfoldable pub read_single : ℕ → ℕ → Outcome (List Statement)
  read_single levels at = named_to tokens levels single None at

  -- the statements in the braces of a body, if there are any
  unfoldable pub read_block_or_none : ℕ → ℕ → Outcome (List Statement)
  read_block_or_none levels at = reading tokens levels (g.or_none {s = statement} (named block)) None at

  unfoldable pub read_a_block : ℕ → ℕ → Outcome (List Statement)
  read_a_block levels at = reading tokens levels g.a_block None at

  unfoldable pub read_body : ℕ → ℕ → Outcome (List Statement)
  read_body levels at = reading tokens levels g.body None at

  unfoldable pub read_if : ℕ → ℕ → Outcome StatementForm
  read_if levels at = reading tokens levels g.if_else None at

  unfoldable pub read_otherwise : ℕ → ℕ → Outcome (Option (List Statement))
  read_otherwise levels at = reading tokens levels (nearest {s = several statement} (code w.Else ∷ []) (g.exactly w.Else ⊳ g.body)) None at

  -- what stands behind the condition of an `if`
  unfoldable pub read_branches : ℕ → ℕ → Outcome (List Statement × Option (List Statement))
  read_branches levels at = reading tokens levels (g.body ⊗ nearest {s = several statement} (code w.Else ∷ []) (g.exactly w.Else ⊳ g.body)) None at

  unfoldable pub read_while : ℕ → ℕ → Outcome StatementForm
  read_while levels at = reading tokens levels g.while_loop None at

  unfoldable pub read_values_and_body : ℕ → ℕ → Outcome (Sequence × List Statement)
  read_values_and_body levels at = reading tokens levels ((g.exactly w.In ⊳ g.a_sequence) ⊗ g.body) None at

  unfoldable pub read_named_loop : ℕ → ℕ → Outcome (List ℕ × (Sequence × List Statement))
  read_named_loop levels at = reading tokens levels (g.a_label ⊗ (g.exactly w.In ⊳ g.a_sequence) ⊗ g.body) None at

  unfoldable pub read_for : ℕ → ℕ → Outcome StatementForm
  read_for levels at = reading tokens levels g.for_loop None at

  unfoldable pub read_statement : ℕ → ℕ → Outcome Statement
  read_statement levels at = reading tokens levels g.a_statement None at

  -- ---- subroutines

  -- a subroutine from the type of its result on, and from behind its name on
  unfoldable pub read_result_and_body : ℕ → ℕ → Outcome (Option Scalar × List Statement)
  read_result_and_body levels at = reading tokens levels (maybe {s = scalar} (g.exactly w.Arrow ⊳ g.a_scalar) ⊗ g.a_block) None at

  unfoldable pub read_definition_parts : ℕ → ℕ → Outcome (List Parameter × (Option Scalar × List Statement))
  read_definition_parts levels at = reading tokens levels (g.parens {s = several parameter} (g.or_none {s = parameter} (named parameters)) ⊗ maybe {s = scalar} (g.exactly w.Arrow ⊳ g.a_scalar) ⊗ g.a_block) None at

  unfoldable pub read_definition : ℕ → Place → ℕ → Outcome Item
  read_definition levels place at = applied {A = Place} {B = Item} place (reading tokens levels g.definition None at)

  -- ---- programs

  unfoldable pub read_statement_item : ℕ → Place → ℕ → Outcome Item
  read_statement_item levels place at = applied {A = Place} {B = Item} place (reading tokens levels g.statement_item None at)

  unfoldable pub read_global : ℕ → ℕ → Outcome Item
  read_global levels at = reading tokens levels g.global None at

  unfoldable pub read_items : ℕ → ℕ → Outcome (List Item)
  read_items levels at = reading tokens levels (g.or_none {s = item} (g.some {s = item} g.global)) None at

  unfoldable pub read_version_number : ℕ → Outcome VersionNumber
  read_version_number at = reading tokens 0 g.number_form None at

  unfoldable pub read_version : ℕ → Outcome Version
  read_version at = reading tokens 0 g.version_form None at

  -- the version of a text, if it has one
  unfoldable pub read_versions : ℕ → Outcome (List Version)
  read_versions at = reading tokens 0 (as_tree {s = optional version} {t = several version} g.versions_of (maybe {s = version} g.version_form)) None at

  unfoldable pub read_whole : ℕ → ℕ → Outcome Program
  read_whole levels at = reading tokens levels g.whole None at
