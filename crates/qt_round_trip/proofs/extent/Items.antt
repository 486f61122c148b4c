-- Each form of items, and programs.
use Rattle.std.proofs.Common.{◌≡◌, ℕ, ◌+◌, List, [], ◌∷◌, ◌++◌, map, Option, codes, refl, arith}
use Rattle.std.proofs.lemmas.List.{append-nil}
use Rattle.qt_tree.specs.declared.place.Place.{Place}
use Rattle.qt_tree.specs.declared.program.Version.{Version}
use Rattle.qt_tree.specs.declared.program.Item.{Item}
use Rattle.qt_tree.specs.declared.program.Item.TheVariants as i
use Rattle.qt_tree.specs.declared.program.GateForm.{GateForm}
use Rattle.qt_terminals.specs.declared.terminal.Terminal.TheVariants as w
use Rattle.qt_grammar.specs.Sorts.{Sort, Value, item_tail, item, label}
use Rattle.qt_grammar.specs.Form.{Form, as_tree}
use Rattle.qt_grammar.specs.Language.{ended, listed, names, or_none, some, include, interface, qubits, qubit_item, register_item, list, entry_form, array_item, gate_line_form, a_gate_line, gate_item, a_parameter, definition, statement_item, global, number_form, version_form, versions_of, whole}
use Rattle.qt_lexemes.specs.Lexemes.{Lexeme, keyword, operator, comma}
use Rattle.qt_print.specs.Statements.{Line, sentence, all_lines}
use Rattle.qt_print.specs.Programs.{number_lexeme, version_lines, item_lexemes, values_lexemes, names_lexemes, gate_barrier_lexemes, gate_form_lexemes, gate_statement_lines, qubit_lexemes, parameter_lexemes, item_lines, program_lines}
use Rattle.qt_print.proofs.Lines.{statement_is}
use Rattle.qt_print.proofs.Items.{item-list_lexemes, item-value_lexemes}
use Rattle.qt_round_trip.proofs.extent.Costs.{Paid, paid_both, paid_is, paid_more, paid_nothing, paid_sentence}
use Rattle.qt_round_trip.proofs.extent.Combinators.{Setting, Pays, Of, pays_any, pays_here, pays_tree, pays_either, pays_then, pays_maybe, pays_lexemes, pays_made, pays_pair, pays_optional}
use Rattle.qt_round_trip.proofs.extent.Tokens.{pays_behind, pays_parens, pays_brackets, pays_braces, pays_ended, pays_label, pays_number, pays_decimal, pays_quotation}
use Rattle.qt_round_trip.proofs.extent.Lists.{pays_separated, pays_or_none}
use Rattle.qt_round_trip.proofs.extent.Expressions.{pays_size, pays_scalar, pays_expression}
use Rattle.qt_round_trip.proofs.extent.Operands.{pays_gate_call}
use Rattle.qt_round_trip.proofs.extent.Bodies.{Named, OfLines, pays_all, pays_in_braces, pays_head, pays_in_head, pays_headed}
use Rattle.qt_round_trip.proofs.extent.Statements.{pays_a_block, pays_form}

-- an item, but for its place
abbrev ItemTail : ℕ → (Place → Item) → ℕ → Type 0
ItemTail d tail n = (at : Place) → Paid d (item_lines (tail at)) n

module _ {z : Setting} {s : Sort} {f : Form s} {x : Value s → List Lexeme} where
  pays_item_sentence : {k : Value s → Place → Item} → Pays z f (Of x) → ((v : Value s) (at : Place) → item_lines (k v at) ≡ sentence (x v)) → Pays z (as_tree {s = s} {t = item_tail} k (ended f)) (ItemTail z.level)
  pays_item_sentence a e = pays_tree (pays_ended a) (λ v n p at. paid_is (e v at) (paid_sentence (x v) p))

abbrev items_lines : List Item → List Line
items_lines xs = all_lines (map item_lines xs)

-- the lines of the version of a text, where it has one
abbrev first_lines : Option Version → List Line
first_lines version = all_lines (map version_lines (versions_of version))

abbrev gate_form_lines : GateForm → List Line
gate_form_lines x = sentence (gate_form_lexemes x)

pays_names : {z : Setting} → Pays z names (Of names_lexemes)
pays_names = pays_separated comma refl pays_label

pays_any_names : {z : Setting} → Pays z (or_none {s = label} names) (Of names_lexemes)
pays_any_names = pays_or_none refl pays_names

module _ {z : Setting} (h : Named z) where
  abbrev Items : Form item_tail → Type 0
  Items f = Pays z f (ItemTail z.level)

  pays_include : Items include
  pays_include = pays_item_sentence (pays_behind (keyword (codes "include")) refl pays_quotation) (λ t at. refl)

  pays_input : Items (interface w.Input i.Input)
  pays_input = pays_item_sentence (pays_behind (keyword (codes "input")) refl (pays_pair (pays_scalar h) pays_label)) (λ c at. refl)

  pays_output : Items (interface w.Output i.Output)
  pays_output = pays_item_sentence (pays_behind (keyword (codes "output")) refl (pays_pair (pays_scalar h) pays_label)) (λ c at. refl)

  pays_qubits : Pays z qubits (Of (λ v. qubit_lexemes v.0 v.1))
  pays_qubits = pays_behind (keyword (codes "qubit")) refl (pays_pair (pays_optional (pays_size h)) pays_label)

  pays_qubit_item : Items qubit_item
  pays_qubit_item = pays_item_sentence pays_qubits (λ c at. refl)

  pays_register_item : Items register_item
  pays_register_item = pays_item_sentence (pays_behind (keyword (codes "qreg")) refl (pays_pair pays_label (pays_optional (pays_size h)))) (λ c at. refl)

  -- ---- arrays

  pays_list : Pays z list (Of values_lexemes)
  pays_list = pays_braces h.of_entry

  pub pays_entry : Pays z entry_form (Of item_lexemes)
  pays_entry = pays_either (pays_made pays_list item-list_lexemes) (pays_made (pays_expression h) item-value_lexemes)

  pays_array_item : Items array_item
  pays_array_item = pays_item_sentence (pays_behind (keyword (codes "array")) refl (pays_pair (pays_brackets h.of_array) (pays_pair pays_label (pays_optional (pays_behind (operator (codes "=")) refl pays_list))))) (λ c at. refl)

  -- ---- gates

  pays_gate_form : Pays z gate_line_form (OfLines z.level gate_form_lines)
  pays_gate_form = pays_either (pays_tree (pays_ended (pays_gate_call h)) (λ c n p. paid_sentence _ p))
      (pays_tree (pays_ended (pays_behind (keyword (codes "barrier")) refl pays_any_names)) (λ c n p. paid_sentence (gate_barrier_lexemes c) p))

  pub pays_gate_line : Pays z a_gate_line (OfLines z.level gate_statement_lines)
  pays_gate_line = pays_then pays_here pays_gate_form (λ at x m n p q. paid_more q (omega arith))

  pays_gate_item : Items gate_item
  pays_gate_item = pays_tree (pays_headed (keyword (codes "gate")) refl (pays_in_head pays_label (pays_in_head (pays_optional (pays_parens pays_any_names)) (pays_head pays_names (pays_in_braces h.of_gate_block))))) (λ c n p at. p)

  -- ---- subroutines

  pub pays_parameter : Pays z a_parameter (Of parameter_lexemes)
  pays_parameter = pays_either (pays_lexemes (pays_scalar h) pays_label (λ x text. refl)) (pays_made pays_qubits (λ c. refl))

  pays_definition : Items definition
  pays_definition = pays_tree (pays_headed (keyword (codes "def")) refl (pays_in_head pays_label (pays_in_head (pays_parens (pays_or_none refl h.of_parameters)) (pays_head (pays_optional (pays_behind (operator (codes "->")) refl (pays_scalar h))) (pays_a_block h))))) (λ c n p at. p)

  -- ---- programs

  pays_statement_item : Items statement_item
  pays_statement_item = pays_tree (pays_form h) (λ x n p at. paid_is (statement_is _) p)

  pays_global : Pays z global (OfLines z.level item_lines)
  pays_global = pays_then pays_here (pays_either pays_include (pays_either pays_input (pays_either pays_output (pays_either pays_qubit_item (pays_either pays_register_item (pays_either pays_array_item
      (pays_either pays_gate_item (pays_either pays_definition pays_statement_item)))))))) (λ at tail m n p q. paid_more (q at) (omega arith))

  pays_version_number : Pays z number_form (Of (λ x. number_lexeme x ∷ []))
  pays_version_number = pays_either (pays_made pays_number (λ t. refl)) (pays_made pays_decimal (λ t. refl))

  pays_version : Pays z version_form (OfLines z.level version_lines)
  pays_version = pays_then pays_here (pays_ended (pays_behind (keyword (codes "OPENQASM")) refl pays_version_number))
      (λ at x m n p q. paid_more (paid_sentence (keyword (codes "OPENQASM") ∷ number_lexeme x ∷ []) q) (omega arith))

  -- lines, or none
  abbrev Whole : {A : Type 0} → (A → List Line) → A → ℕ → Type 0
  Whole lines x n = Paid z.level (lines x) (133 + n)

  pays_items : Pays z (or_none {s = item} (some global)) (Whole items_lines)
  pays_items = pays_tree (pays_maybe {G = λ o n. Whole items_lines (listed o) n} (pays_all pays_global) (paid_nothing 0) (λ v n p. paid_more p (omega arith))) (λ o n p. p)

  pub pays_whole : Pays z whole (λ x n. Paid z.level (program_lines x) (133 + n))
  pays_whole = pays_tree (pays_then {H = λ v n. Paid z.level (first_lines v.0 ++ items_lines v.1.0) (133 + n)}
      (pays_maybe {G = Whole first_lines} pays_version (paid_nothing 0) (λ v n p. paid_is (append-nil (version_lines v)) (paid_more p (omega arith))))
      (pays_then {H = λ v n. Whole items_lines v.0 n} pays_items pays_any (λ xs t m n p q. paid_more p (omega arith)))
      (λ x v m n p q. paid_both (133 + (m + n)) p q (omega arith))) (λ c n p. p)
