-- Each form of items but gates and definitions, and the version of a program.
use Rattle.std.proofs.Common.{◌≡◌, ℕ, ◌⊎◌, inl, inr, Bool, true, false, if◌then◌else◌, IsTrue, List, [], ◌∷◌, map, codes, Option, refl, sym, ◌∙◌, ap}
use Rattle.qt_tree.specs.declared.expression.Expr.{Expr}
use Rattle.qt_tree.specs.declared.place.Place.{Place}
use Rattle.qt_tree.specs.declared.program.Item.{Item}
use Rattle.qt_tree.specs.declared.program.Item.TheVariants as item_of
use Rattle.qt_tree.specs.declared.program.ListItem.TheVariants as entry_of
use Rattle.qt_tree.specs.declared.program.Parameter.TheVariants as parameter_of
use Rattle.qt_terminals.specs.declared.terminal.Terminal.{Terminal}
use Rattle.qt_terminals.specs.declared.terminal.Terminal.TheVariants as w
use Rattle.qt_terminals.specs.Alphabet.{code, is_operator}
use Rattle.qt_terminals.specs.Literals.{is_bit_text, inside_quotes}
use Rattle.qt_grammar.specs.Sorts.{Sort, Value, item_tail, in_array, an_entry, parameters}
use Rattle.qt_grammar.specs.Form.{Form, one, as_tree, member}
use Rattle.qt_grammar.specs.Language.{ended, include, interface, qubits, qubit_item, register_item, list, array_item, rule}
use Rattle.qt_lexemes.specs.Lexemes.{Lexeme, keyword, comma, quotation, each_behind, separated, operator}
use Rattle.qt_lexemes.specs.Literals.{quoted}
use Rattle.qt_print.specs.Statements.{sentence}
use Rattle.qt_print.specs.Expressions.{expr_lexemes}
use Rattle.qt_print.specs.Programs.{item_lexemes, values_lexemes, parameter_lexemes, item_lines, qubit_lexemes}
use Rattle.qt_print.proofs.Items.{item-list_lexemes, item-value_lexemes}
use Rattle.qt_round_trip.specs.Places.{origin, bare_item}
use Rattle.qt_round_trip.proofs.lexemes.Spelling.{meaning}
use Rattle.qt_round_trip.proofs.lexemes.Written.{lexemes_of}
use Rattle.qt_round_trip.proofs.lexemes.Lists.{Filled}
use Rattle.qt_round_trip.proofs.lexemes.NamedForms.{entries_lexemes, all_parameters_lexemes, in_array_lexemes}
use Rattle.qt_round_trip.proofs.reparsing.Streams.{each_of}
use Rattle.qt_round_trip.proofs.reparsing.Fixed.{text_means}
use Rattle.qt_round_trip.proofs.reparsing.Again.{Any, again-one, again-told}
use Rattle.qt_round_trip.proofs.reparsing.Plain.{lexemes_both}
use Rattle.qt_round_trip.proofs.reparsing.Setting.{Setting, Reader, Rereads}
use Rattle.qt_round_trip.proofs.reparsing.Forms.{form-behind, form-maybe, form-filled, form-tree, form-plain, form-pair, form-either, form-exactly, form-as, form-then, form-brackets, form-braces, form-ended, form-commas}
use Rattle.qt_round_trip.proofs.reparsing.Named.{entry-again, in_array-again}
use Rattle.qt_round_trip.proofs.reparsing.Literals.{label-again}
use Rattle.qt_round_trip.proofs.reparsing.Scalars.{size-again, scalar-again}
use Rattle.qt_round_trip.proofs.reparsing.Expressions.{expression-again}
use Rattle.qt_round_trip.proofs.reparsing.Sentences.{lexemes_of_sentence}

-- an item, when its place is known
abbrev pub ItemTail : (Place → Item) → List Lexeme → Type 0
ItemTail tail l = (at : Place) → lexemes_of (item_lines (tail at)) ≡ l

abbrev pub SameItemTail : (Place → Item) → (Place → Item) → Type 0
SameItemTail x y = (at at' : Place) → bare_item (x at) ≡ bare_item (y at')

abbrev quoted_lexemes : List ℕ
quoted_lexemes = code w.Text ∷ code w.BitText ∷ []

is_quoted : (k : Terminal) → IsTrue (member (code k) quoted_lexemes) → (k ≡ w.Text) ⊎ (k ≡ w.BitText)
is_quoted k h = each_of (λ k. (k ≡ w.Text) ⊎ (k ≡ w.BitText)) (w.Text ∷ w.BitText ∷ []) (inl refl, (inr refl, tt)) k h

quoted_no_operator : (k : Terminal) → IsTrue (member (code k) quoted_lexemes) → is_operator k ≡ false
quoted_no_operator k h = each_of (λ k. is_operator k ≡ false) (w.Text ∷ w.BitText ∷ []) (refl, (refl, tt)) k h

printed_quoted : (text : List ℕ) → IsTrue (member (code (meaning (quotation text))) quoted_lexemes)
printed_quoted text = ap (λ k. member (code k) quoted_lexemes) (text_means (quoted text)) ∙ at_test (is_bit_text (quoted text))
  where
    at_test : (v : Bool) → IsTrue (member (code (if v then w.BitText else w.Text)) quoted_lexemes)
    at_test true = refl
    at_test false = refl

-- a list that isn't empty, behind a comma
behind_comma : (xs : List Expr) → Filled xs → each_behind comma (map expr_lexemes xs) ≡ comma ∷ separated comma (map expr_lexemes xs)
behind_comma [] h = absurd h
behind_comma (x ∷ xs) h = refl

module _ (s : Setting) (outer : Option ℕ) where
  -- an item of one line, which has one place
  item-line : {t : Sort} {f : Form t} {lexemes : Value t → List Lexeme} → Rereads s outer f lexemes → (k : Value t → Place → Item) → ((x : Value t) (at : Place) → item_lines (k x at) ≡ sentence (lexemes x))
      → ((x : Value t) (at at' : Place) → bare_item (k x at) ≡ bare_item (k x at')) → Reader s outer (as_tree {s = t} {t = item_tail} k (ended f)) (as_tree {s = t} {t = item_tail} k (ended f)) ItemTail SameItemTail Any
  item-line {lexemes = lexemes} a k e b = form-as (form-ended a) k ItemTail SameItemTail (λ x l h at. ap lexemes_of (e x at) ∙ (lexemes_of_sentence (lexemes x) ∙ h))
      (λ x y same at at'. b x at at' ∙ ap (λ t. bare_item (k t at')) same)

  quoted-again : Reader s outer (one quoted_lexemes) (one quoted_lexemes) (λ t l. quotation (inside_quotes t.spelling) ∷ [] ≡ l) (λ t t'. inside_quotes t.spelling ≡ inside_quotes t'.spelling) Any
  quoted-again = record {
    reads = again-told (again-one s.streams quoted_lexemes quoted_lexemes (λ t. quotation (inside_quotes t.spelling)) refl refl
        (λ i h. (printed_quoted (inside_quotes ((s.streams.old i).spelling)), quoted_no_operator ((s.streams.old i).terminal) h ∙ sym (quoted_no_operator (meaning (quotation (inside_quotes ((s.streams.old i).spelling)))) (printed_quoted (inside_quotes ((s.streams.old i).spelling)))))))
        (λ t l. quotation (inside_quotes t.spelling) ∷ [] ≡ l) (λ t t'. inside_quotes t.spelling ≡ inside_quotes t'.spelling) (λ t l h. h)
        (λ t t' kept. sym (ap inside_quotes kept.3 ∙ (kept.1.quotation (is_quoted t.terminal kept.0)).inside));
  }

  pub include-again : Reader s outer include include ItemTail SameItemTail Any
  include-again = form-as (form-ended (form-behind (keyword (codes "include")) w.Include refl quoted-again)) (λ k at. item_of.Include at (inside_quotes k.spelling)) ItemTail SameItemTail
      (λ t l h at. lexemes_of_sentence (keyword (codes "include") ∷ quotation (inside_quotes t.spelling) ∷ []) ∙ h) (λ t t' same at at'. ap (item_of.Include origin) same)

  pub input-again : Reader s outer (interface w.Input item_of.Input) (interface w.Input item_of.Input) ItemTail SameItemTail Any
  input-again = item-line (form-behind (keyword (codes "input")) w.Input refl (form-pair (scalar-again s outer) (label-again s outer))) (λ c at. item_of.Input at c.0 c.1) (λ c at. refl) (λ c at at'. refl)

  pub output-again : Reader s outer (interface w.Output item_of.Output) (interface w.Output item_of.Output) ItemTail SameItemTail Any
  output-again = item-line (form-behind (keyword (codes "output")) w.Output refl (form-pair (scalar-again s outer) (label-again s outer))) (λ c at. item_of.Output at c.0 c.1) (λ c at. refl) (λ c at at'. refl)

  qubits-again : Rereads s outer qubits (λ c. qubit_lexemes c.0 c.1)
  qubits-again = form-behind (keyword (codes "qubit")) w.Qubit refl (form-pair (form-maybe (size-again s outer)) (label-again s outer))

  pub qubit-again : Reader s outer qubit_item qubit_item ItemTail SameItemTail Any
  qubit-again = item-line qubits-again (λ c at. item_of.Qubit at c.0 c.1) (λ c at. refl) (λ c at at'. refl)

  pub register-again : Reader s outer register_item register_item ItemTail SameItemTail Any
  register-again = item-line (form-behind (keyword (codes "qreg")) w.Qreg refl (form-pair (label-again s outer) (form-maybe (size-again s outer)))) (λ c at. item_of.QubitRegister at c.0 c.1) (λ c at. refl) (λ c at at'. refl)

  list-again : Rereads s outer list values_lexemes
  list-again = form-braces (entry-again s outer)

  pub entry_rule-again : Rereads s outer (rule an_entry) entries_lexemes
  entry_rule-again = form-commas (form-either (form-tree list-again entry_of.List item_lexemes item-list_lexemes) (form-tree (expression-again s outer) entry_of.Value item_lexemes item-value_lexemes))

  pub array-again : Reader s outer array_item array_item ItemTail SameItemTail Any
  array-again = item-line (form-behind (keyword (codes "array")) w.Array refl (form-pair (form-brackets (in_array-again s outer)) (form-pair (label-again s outer) (form-maybe (form-behind (operator (codes "=")) w.Assign refl list-again)))))
      (λ c at. item_of.Array (record { place = at; scalar = c.0.0; dimensions = c.0.1; name = c.1.0; value = c.1.1 })) (λ c at. refl) (λ c at at'. refl)

  pub in_array_rule-again : Rereads s outer (rule in_array) in_array_lexemes
  in_array_rule-again = form-pair (scalar-again s outer)
      (form-then (form-exactly comma w.Comma refl) (form-filled comma w.Comma refl (expression-again s outer)) (λ x y. y) (λ xs l. each_behind comma (map expr_lexemes xs) ≡ l) (λ x y. x ≡ y)
      (λ x xs l m h g. behind_comma xs g.0 ∙ lexemes_both (comma ∷ []) (separated comma (map expr_lexemes xs)) l m h g.1) (λ x x' y y' same alike. alike) (λ y l h m j has next. tt))

  pub parameters_rule-again : Rereads s outer (rule parameters) all_parameters_lexemes
  parameters_rule-again = form-commas (form-either (form-plain (scalar-again s outer) (label-again s outer) (λ x name. parameter_of.Classical x name) parameter_lexemes (λ x y. refl))
      (form-tree qubits-again (λ c. parameter_of.Qubits c.0 c.1) parameter_lexemes (λ c. refl)))
