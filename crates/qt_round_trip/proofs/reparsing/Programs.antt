-- Gates, definitions, items and the version of a program.
use Rattle.std.proofs.Common.{◌≡◌, ℕ, ◌^◌, ◌%◌, List, [], ◌∷◌, ◌++◌, map, Option, codes, refl, sym, ◌∙◌, ap, append_assoc}
use Rattle.qt_tree.specs.declared.place.Place.{Place}
use Rattle.qt_tree.specs.declared.program.Definition.{Definition}
use Rattle.qt_tree.specs.declared.program.GateForm.TheVariants as gate_form_of
use Rattle.qt_tree.specs.declared.program.GateItem.{GateItem}
use Rattle.qt_tree.specs.declared.program.GateStatement.{GateStatement}
use Rattle.qt_tree.specs.declared.program.Item.TheVariants as item_of
use Rattle.qt_tree.specs.declared.program.VersionNumber.TheVariants as number_of
use Rattle.qt_terminals.specs.declared.terminal.Terminal.TheVariants as w
use Rattle.qt_terminals.specs.Literals.{integer_of}
use Rattle.qt_grammar.specs.Sorts.{item, gate_block}
use Rattle.qt_grammar.specs.Language.{of_which, or_none, some, gate_line_form, a_gate_line, gate_item, definition, statement_item, global, number_form, version_form, rule}
use Rattle.qt_lexemes.specs.declared.role.Role.TheVariants as r
use Rattle.qt_lexemes.specs.Lexemes.{Lexeme, lexeme, keyword, name, integer, semicolon, parenthesized, optional as optional_lexemes, operator}
use Rattle.qt_print.specs.Statements.{body_start, body_end, all_lines, statement_lines}
use Rattle.qt_print.specs.Programs.{number_lexeme, version_lines, item_lines, gate_form_lexemes, gate_statement_lines, gate_head, names_lexemes, parameters_lexemes, result_lexemes, definition_head}
use Rattle.qt_round_trip.specs.Places.{origin, bare_statement, bare_gate_statement, bare_item, bare_version}
use Rattle.qt_round_trip.proofs.lexemes.Written.{lexemes_of}
use Rattle.qt_round_trip.proofs.lexemes.NamedForms.{all_parameters_lexemes}
use Rattle.qt_round_trip.proofs.Bare.{bare_statement_is}
use Rattle.qt_round_trip.proofs.reparsing.Fixed.{integer_means, decimal_means}
use Rattle.qt_round_trip.proofs.reparsing.Again.{Any}
use Rattle.qt_round_trip.proofs.reparsing.Plain.{lexemes_both}
use Rattle.qt_round_trip.proofs.reparsing.Setting.{Setting, Reader, Rereads, NoElse, SameGateLines, gate_lines_lexemes}
use Rattle.qt_round_trip.proofs.reparsing.Forms.{form-behind, form-within, form-maybe, form-or_none, form-tree, form-lead, form-weaken, form-either, form-here, form-as, form-then, form-parens, form-ended}
use Rattle.qt_round_trip.proofs.reparsing.Parts.{form-parts, form-parts_or_none}
use Rattle.qt_round_trip.proofs.reparsing.Named.{parameters-again, gate_block-again}
use Rattle.qt_round_trip.proofs.reparsing.Literals.{literal-again, label-again, names-again, number_kept}
use Rattle.qt_round_trip.proofs.reparsing.Scalars.{scalar-again}
use Rattle.qt_round_trip.proofs.reparsing.Operands.{gate_call-again}
use Rattle.qt_round_trip.proofs.reparsing.Sentences.{body_lexemes, lexemes_of_sentence, lexemes_of_block, statement_lexemes_is}
use Rattle.qt_round_trip.proofs.reparsing.Beginnings.{no_else, item_starts}
use Rattle.qt_round_trip.proofs.reparsing.Bodies.{a_block-again}
use Rattle.qt_round_trip.proofs.reparsing.Statements.{statement_form-again}
use Rattle.qt_round_trip.proofs.reparsing.Items.{ItemTail, SameItemTail, include-again, input-again, output-again, qubit-again, register-again, array-again}

-- the body of a gate with its braces
abbrev gate_body_lexemes : List GateStatement → List Lexeme
gate_body_lexemes body = body_start ∷ (gate_lines_lexemes body ++ body_end ∷ [])

gate_lexemes_is : (gate : GateItem) (at : Place) → lexemes_of (item_lines (item_of.Gate gate)) ≡ keyword (codes "gate") ∷ name gate.name ∷ (optional_lexemes parameters_lexemes gate.parameters ++ (names_lexemes gate.qubits ++ gate_body_lexemes gate.body))
gate_lexemes_is gate at =
    lexemes_of_block (gate_head gate) (map gate_statement_lines gate.body)
    ∙ ap (λ t. keyword (codes "gate") ∷ name gate.name ∷ t) (append_assoc (optional_lexemes parameters_lexemes gate.parameters) (names_lexemes gate.qubits) (gate_body_lexemes gate.body))

definition_lexemes_is : (it : Definition) → lexemes_of (item_lines (item_of.Definition it)) ≡ keyword (codes "def") ∷ name it.name ∷ (parenthesized (all_parameters_lexemes it.parameters) ++ (optional_lexemes result_lexemes it.result ++ body_lexemes it.body))
definition_lexemes_is it =
    lexemes_of_block (definition_head it) (map statement_lines it.body)
    ∙ ap (λ t. keyword (codes "def") ∷ name it.name ∷ t) (append_assoc (parenthesized (all_parameters_lexemes it.parameters)) (optional_lexemes result_lexemes it.result) (body_lexemes it.body))

module _ (s : Setting) (outer : Option ℕ) where
  gate_line_form-again : Rereads s outer gate_line_form (λ x. gate_form_lexemes x ++ semicolon ∷ [])
  gate_line_form-again = form-either (form-tree (form-ended (gate_call-again s outer)) gate_form_of.Call (λ x. gate_form_lexemes x ++ semicolon ∷ []) (λ x. refl))
      (form-tree (form-ended (form-behind (keyword (codes "barrier")) w.Barrier refl (form-or_none (names-again s outer) refl))) gate_form_of.Barrier (λ x. gate_form_lexemes x ++ semicolon ∷ []) (λ x. refl))

  gate_line-again : Reader s outer a_gate_line a_gate_line (λ x l. lexemes_of (gate_statement_lines x) ≡ l) (λ x y. bare_gate_statement x ≡ bare_gate_statement y) Any
  gate_line-again = form-then form-here gate_line_form-again (λ at x. record { place = at; form = x }) (λ x l. lexemes_of (gate_statement_lines x) ≡ l) (λ x y. bare_gate_statement x ≡ bare_gate_statement y)
      (λ at x l m h g. lexemes_of_sentence (gate_form_lexemes x) ∙ lexemes_both [] (gate_form_lexemes x ++ semicolon ∷ []) l m h g)
      (λ at at' x x' same alike. ap (λ t. record { place = origin; form = t }) alike) (λ y l h m j has next. tt)

  pub gate_block_rule-again : Reader s outer (rule gate_block) (rule gate_block) (λ xs l. gate_lines_lexemes xs ≡ l) SameGateLines Any
  gate_block_rule-again = form-parts gate_statement_lines bare_gate_statement gate_line-again (λ x i j has next. tt)

  gate-again : Reader s outer gate_item gate_item ItemTail SameItemTail Any
  gate-again = form-as (form-behind (keyword (codes "gate")) w.Gate refl (form-lead (label-again s outer) (form-lead (form-maybe (form-parens (form-or_none (names-again s outer) refl)))
      (form-lead (names-again s outer) (form-within body_start body_end w.LeftBrace w.RightBrace refl refl (form-parts_or_none gate_statement_lines bare_gate_statement (gate_block-again s outer)))))))
      (λ c at. item_of.Gate (record { place = at; name = c.0; parameters = c.1.0; qubits = c.1.1.0; body = c.1.1.1 })) ItemTail SameItemTail
      (λ c l h at. gate_lexemes_is (record { place = at; name = c.0; parameters = c.1.0; qubits = c.1.1.0; body = c.1.1.1 }) at ∙ h)
      (λ c d same at at'.
      ap (λ t. item_of.Gate (record { place = origin; name = t; parameters = c.1.0; qubits = c.1.1.0; body = map bare_gate_statement c.1.1.1 })) same.0
      ∙ (ap (λ t. item_of.Gate (record { place = origin; name = d.0; parameters = t; qubits = c.1.1.0; body = map bare_gate_statement c.1.1.1 })) same.1.0
      ∙ (ap (λ t. item_of.Gate (record { place = origin; name = d.0; parameters = d.1.0; qubits = t; body = map bare_gate_statement c.1.1.1 })) same.1.1.0
      ∙ ap (λ t. item_of.Gate (record { place = origin; name = d.0; parameters = d.1.0; qubits = d.1.1.0; body = t })) same.1.1.1)))

  definition-again : Reader s outer definition definition ItemTail SameItemTail Any
  definition-again = form-as (form-behind (keyword (codes "def")) w.Def refl (form-lead (label-again s outer) (form-lead (form-parens (form-or_none (parameters-again s outer) refl))
      (form-lead (form-maybe (form-behind (operator (codes "->")) w.Arrow refl (scalar-again s outer))) (a_block-again s outer)))))
      (λ c at. item_of.Definition (record { place = at; name = c.0; parameters = c.1.0; result = c.1.1.0; body = c.1.1.1 })) ItemTail SameItemTail
      (λ c l h at. definition_lexemes_is (record { place = at; name = c.0; parameters = c.1.0; result = c.1.1.0; body = c.1.1.1 }) ∙ h)
      (λ c d same at at'.
      ap (λ t. item_of.Definition (record { place = origin; name = t; parameters = c.1.0; result = c.1.1.0; body = map bare_statement c.1.1.1 })) same.0
      ∙ (ap (λ t. item_of.Definition (record { place = origin; name = d.0; parameters = t; result = c.1.1.0; body = map bare_statement c.1.1.1 })) same.1.0
      ∙ (ap (λ t. item_of.Definition (record { place = origin; name = d.0; parameters = d.1.0; result = t; body = map bare_statement c.1.1.1 })) same.1.1.0
      ∙ ap (λ t. item_of.Definition (record { place = origin; name = d.0; parameters = d.1.0; result = d.1.1.0; body = t })) same.1.1.1)))

  statement_item-again : Reader s outer statement_item statement_item ItemTail SameItemTail (NoElse s.streams)
  statement_item-again = form-as (statement_form-again s outer) (λ x at. item_of.Statement (record { place = at; form = x })) ItemTail SameItemTail
      (λ x l h at. statement_lexemes_is (record { place = at; form = x }) ∙ h)
      (λ x y same at at'. ap item_of.Statement (bare_statement_is (record { place = at; form = x }) ∙ (ap (λ t. record { place = origin; form = t }) same ∙ sym (bare_statement_is (record { place = at'; form = y })))))

  pub global-again : Reader s outer global global (λ x l. lexemes_of (item_lines x) ≡ l) (λ x y. bare_item x ≡ bare_item y) (NoElse s.streams)
  global-again = form-then form-here
      (form-either (form-weaken (NoElse s.streams) (include-again s outer)) (form-either (form-weaken (NoElse s.streams) (input-again s outer)) (form-either (form-weaken (NoElse s.streams) (output-again s outer))
      (form-either (form-weaken (NoElse s.streams) (qubit-again s outer)) (form-either (form-weaken (NoElse s.streams) (register-again s outer)) (form-either (form-weaken (NoElse s.streams) (array-again s outer))
      (form-either (form-weaken (NoElse s.streams) gate-again) (form-either (form-weaken (NoElse s.streams) definition-again) statement_item-again))))))))
      of_which (λ x l. lexemes_of (item_lines x) ≡ l) (λ x y. bare_item x ≡ bare_item y)
      (λ at tail l m h g. g at ∙ ap (λ t. t ++ m) h) (λ at at' tail tail' same alike. alike at at') (λ y l h m j has next. tt)

  pub items-again : Reader s outer (or_none {s = item} (some global)) (or_none {s = item} (some global)) (λ xs l. lexemes_of (all_lines (map item_lines xs)) ≡ l) (λ xs ys. map bare_item xs ≡ map bare_item ys) (NoElse s.streams)
  items-again = form-parts_or_none item_lines bare_item (form-parts item_lines bare_item global-again (λ x i j has next. no_else s.streams (lexemes_of (item_lines x)) i j (item_starts x) has))

  number-again : Rereads s outer number_form (λ x. number_lexeme x ∷ [])
  number-again = form-either
      (form-as (literal-again s outer w.Integer (λ t. integer (integer_of t.spelling % 2 ^ 64)) refl (λ i h. integer_means (integer_of ((s.streams.old i).spelling) % 2 ^ 64)))
      (λ k. number_of.Integer (integer_of k.spelling % 2 ^ 64)) (λ v l. number_lexeme v ∷ [] ≡ l) (λ x y. x ≡ y) (λ t l h. h) (λ t t' kept. ap number_of.Integer (number_kept s.streams.numbers (integer_of t.spelling) t'.spelling kept.3)))
      (form-as (literal-again s outer w.Decimal (λ t. lexeme r.Decimal t.spelling) refl (λ i h. decimal_means ((s.streams.old i).spelling)))
      (λ k. number_of.Decimal k.spelling) (λ v l. number_lexeme v ∷ [] ≡ l) (λ x y. x ≡ y) (λ t l h. h) (λ t t' kept. ap number_of.Decimal (sym kept.3)))

  pub version-again : Reader s outer version_form version_form (λ x l. lexemes_of (version_lines x) ≡ l) (λ x y. bare_version x ≡ bare_version y) Any
  version-again = form-then form-here (form-ended (form-behind (keyword (codes "OPENQASM")) w.OpenQasm refl number-again)) (λ at x. record { place = at; number = x }) (λ x l. lexemes_of (version_lines x) ≡ l) (λ x y. bare_version x ≡ bare_version y)
      (λ at x l m h g. lexemes_of_sentence (keyword (codes "OPENQASM") ∷ number_lexeme x ∷ []) ∙ lexemes_both [] (keyword (codes "OPENQASM") ∷ number_lexeme x ∷ semicolon ∷ []) l m h g)
      (λ at at' x x' same alike. ap (λ t. bare_version (record { place = origin; number = t })) alike) (λ y l h m j has next. tt)
