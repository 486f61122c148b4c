-- Items and statements with a body: the next terminal decides which form is read.
use Rattle.std.proofs.Common.{◌≡◌, ℕ, List, [], ◌∷◌, true, false, None, Ok, Err, ap, refl}
use Rattle.qt_tree.specs.declared.place.Place.{Place}
use Rattle.qt_tree.specs.declared.statement.StatementForm.{StatementForm}
use Rattle.qt_tree.specs.declared.program.Item.{Item}
use Rattle.qt_tree.specs.declared.program.Item.TheVariants as i
use Rattle.qt_terminals.specs.declared.terminal.Terminal.{Terminal}
use Rattle.qt_terminals.specs.declared.terminal.Terminal.TheVariants as w
use Rattle.qt_terminals.specs.Alphabet.{code}
use Rattle.qt_terminals.specs.Terminals.{PlacedTerminal, stream}
use Rattle.qt_grammar.specs.Sorts.{item_tail}
use Rattle.qt_grammar.specs.Form.{Form, member}
use Rattle.qt_grammar.specs.Lookahead.{first}
use Rattle.qt_grammar.specs.Outcome.{Outcome, and_then}
use Rattle.qt_grammar.specs.Language as g
use Rattle.qt_expr.proofs.Alternatives.{DiffersFrom, none_of, alternative, last_alternative, nth, before}
use Rattle.qt_expr.specs.Parser.{reading}
use Rattle.qt_simple_statements.proofs.Choices.{statement_is}
use Rattle.qt_simple_statements.specs.Parser.{applied, read_statement_form}
use Rattle.qt_items.specs.Parser.{read_include, read_interface, read_qubit_item, read_register_item, read_array_item, read_gate_item}
use Rattle.qt_parse.specs.Parser.{read_if, read_while, read_for, read_global, read_definition, read_statement_item}

-- the items but for statements
abbrev pub others : List (Form item_tail)
others = g.include ∷ g.interface w.Input i.Input ∷ g.interface w.Output i.Output ∷ g.qubit_item ∷ g.register_item ∷ g.array_item ∷ g.gate_item ∷ g.definition ∷ []

-- the terminals that they begin with
abbrev pub other_terminals : List Terminal
other_terminals = w.Include ∷ w.Input ∷ w.Output ∷ w.Qubit ∷ w.Qreg ∷ w.Array ∷ w.Gate ∷ w.Def ∷ []

module _ (tokens : List PlacedTerminal) (levels at : ℕ) where
  -- ---- items

  -- the item with that number, by the terminal that begins it
  item_is : (n : ℕ) (k : Terminal) → (stream tokens at).terminal ≡ k → member (code k) (before n others) ≡ false → member (code k) (first (nth n others g.statement_item)) ≡ true
      → read_global tokens levels at ≡ applied {A = Place} {B = Item} ((stream tokens at).place) (reading tokens levels (nth n others g.statement_item) None at)
  unfolding read_global
  item_is n k e p q = ap (λ out. applied {A = Place} {B = Item} ((stream tokens at).place) out) (alternative tokens levels None at {s = item_tail} others g.statement_item n k e p q)

  pub include_is : (stream tokens at).terminal ≡ w.Include → read_global tokens levels at ≡ read_include tokens ((stream tokens at).place) at
  unfolding read_include
  include_is e = item_is 0 w.Include e refl refl

  pub input_is : (stream tokens at).terminal ≡ w.Input → read_global tokens levels at ≡ read_interface tokens w.Input i.Input levels ((stream tokens at).place) at
  unfolding read_interface
  input_is e = item_is 1 w.Input e refl refl

  pub output_is : (stream tokens at).terminal ≡ w.Output → read_global tokens levels at ≡ read_interface tokens w.Output i.Output levels ((stream tokens at).place) at
  unfolding read_interface
  output_is e = item_is 2 w.Output e refl refl

  pub qubit_item_is : (stream tokens at).terminal ≡ w.Qubit → read_global tokens levels at ≡ read_qubit_item tokens levels ((stream tokens at).place) at
  unfolding read_qubit_item
  qubit_item_is e = item_is 3 w.Qubit e refl refl

  pub register_item_is : (stream tokens at).terminal ≡ w.Qreg → read_global tokens levels at ≡ read_register_item tokens levels ((stream tokens at).place) at
  unfolding read_register_item
  register_item_is e = item_is 4 w.Qreg e refl refl

  pub array_item_is : (stream tokens at).terminal ≡ w.Array → read_global tokens levels at ≡ read_array_item tokens levels ((stream tokens at).place) at
  unfolding read_array_item
  array_item_is e = item_is 5 w.Array e refl refl

  pub gate_item_is : (stream tokens at).terminal ≡ w.Gate → read_global tokens levels at ≡ read_gate_item tokens levels ((stream tokens at).place) at
  unfolding read_gate_item
  gate_item_is e = item_is 6 w.Gate e refl refl

  pub definition_is : (stream tokens at).terminal ≡ w.Def → read_global tokens levels at ≡ read_definition tokens levels ((stream tokens at).place) at
  unfolding read_definition
  definition_is e = item_is 7 w.Def e refl refl

  pub statement_item_is : DiffersFrom ((stream tokens at).terminal) other_terminals → read_global tokens levels at ≡ read_statement_item tokens levels ((stream tokens at).place) at
  unfolding read_global read_statement_item
  statement_item_is d = ap (λ out. applied {A = Place} {B = Item} ((stream tokens at).place) out) (last_alternative tokens levels None at {s = item_tail} others g.statement_item (none_of ((stream tokens at).terminal) other_terminals d))

  item_made : (place : Place) (out : Outcome StatementForm)
      → applied {A = Place} {B = Item} place (and_then {A = StatementForm} {B = Place → Item} out (λ x j. Ok ((λ at. i.Statement (record { place = at; form = x })), j)))
      ≡ and_then {A = StatementForm} {B = Item} out (λ x j. Ok (i.Statement (record { place = place; form = x }), j))
  item_made place (Ok z) = refl
  item_made place (Err x) = refl

  -- the reader of statements stays shut
  pub statement_item_made : (place : Place) → read_statement_item tokens levels place at ≡ and_then (read_statement_form tokens levels at) (λ x j. Ok (i.Statement (record { place = place; form = x }), j))
  unfolding read_statement_item read_statement_form
  statement_item_made place = item_made place (reading tokens levels g.statement_form None at)

  -- ---- statements with a body

  pub if_is : (stream tokens at).terminal ≡ w.If → read_statement_form tokens levels at ≡ read_if tokens levels at
  unfolding read_if
  if_is e = statement_is tokens levels at 9 w.If e refl refl

  pub while_is : (stream tokens at).terminal ≡ w.While → read_statement_form tokens levels at ≡ read_while tokens levels at
  unfolding read_while
  while_is e = statement_is tokens levels at 10 w.While e refl refl

  pub for_is : (stream tokens at).terminal ≡ w.For → read_statement_form tokens levels at ≡ read_for tokens levels at
  unfolding read_for
  for_is e = statement_is tokens levels at 11 w.For e refl refl
