-- What is known of the forms with names, at some number of levels, and what is to be shown of each form one level above.
use Rattle.std.proofs.Common.{◌≡◌, ℕ, false, List, [], ◌∷◌, map, Option}
use Rattle.qt_tree.specs.declared.program.GateStatement.{GateStatement}
use Rattle.qt_tree.specs.declared.statement.Statement.{Statement}
use Rattle.qt_terminals.specs.declared.terminal.Terminal.TheVariants as w
use Rattle.qt_terminals.specs.Alphabet.{code}
use Rattle.qt_grammar.specs.Sorts.{Sort, Value, Name, sort, any, unary, block, single, an_index, a_range, a_set, an_entry, in_sizeof, in_array, parameters, gate_block}
use Rattle.qt_grammar.specs.Form.{Form, Reading, ReadsBy, member, terminal_at}
use Rattle.qt_lexemes.specs.Lexemes.{Lexeme}
use Rattle.qt_print.specs.Expressions.{expr_lexemes, index_lexemes, range_lexemes, list_lexemes}
use Rattle.qt_print.specs.Statements.{all_lines, statement_lines}
use Rattle.qt_print.specs.Programs.{gate_statement_lines}
use Rattle.qt_round_trip.specs.Places.{bare_statement, bare_gate_statement}
use Rattle.qt_round_trip.proofs.lexemes.Written.{lexemes_of}
use Rattle.qt_round_trip.proofs.lexemes.NamedForms.{entries_lexemes, all_parameters_lexemes, in_sizeof_lexemes, in_array_lexemes}
use Rattle.qt_round_trip.proofs.reparsing.Streams.{Streams}
use Rattle.qt_round_trip.proofs.reparsing.Again.{Again, Any}
use Rattle.qt_round_trip.proofs.reparsing.Plain.{Plain}

-- the lexemes of statements, of what stands in a gate's body
abbrev pub statements_lexemes : List Statement → List Lexeme
statements_lexemes all = lexemes_of (all_lines (map statement_lines all))

abbrev pub gate_lines_lexemes : List GateStatement → List Lexeme
gate_lines_lexemes all = lexemes_of (all_lines (map gate_statement_lines all))

abbrev pub SameStatements : List Statement → List Statement → Type 0
SameStatements xs ys = map bare_statement xs ≡ map bare_statement ys

abbrev pub SameGateLines : List GateStatement → List GateStatement → Type 0
SameGateLines xs ys = map bare_gate_statement xs ≡ map bare_gate_statement ys

module _ (z : Streams) where
  -- no `else` stands at this place
  abbrev pub NoElse : ℕ → Type 0
  NoElse j = member (terminal_at z.new j) (code w.Else ∷ []) ≡ false

  -- statements, which may be read by another form
  abbrev pub Statements : Reading (List Statement) → Reading (List Statement) → Type 0
  Statements r c = Again z r c (λ xs l. statements_lexemes xs ≡ l) SameStatements NoElse

  pub record Names (r c : (n : Name) → Option ℕ → Reading (Value (sort n))) : Type 0 where
    pub any_ : (outer : Option ℕ) → Plain z (r any outer) (c any outer) expr_lexemes
    pub unary_ : (outer : Option ℕ) → Plain z (r unary outer) (c unary outer) expr_lexemes
    pub block_ : (outer : Option ℕ) → Statements (r block outer) (c block outer)
    -- a statement as a body is read again between braces
    pub single_ : (outer : Option ℕ) → Statements (r single outer) (c block outer)
    pub index_ : (outer : Option ℕ) → Plain z (r an_index outer) (c an_index outer) index_lexemes
    pub range_ : (outer : Option ℕ) → Plain z (r a_range outer) (c a_range outer) range_lexemes
    pub set_ : (outer : Option ℕ) → Plain z (r a_set outer) (c a_set outer) list_lexemes
    pub entry_ : (outer : Option ℕ) → Plain z (r an_entry outer) (c an_entry outer) entries_lexemes
    pub in_sizeof_ : (outer : Option ℕ) → Plain z (r in_sizeof outer) (c in_sizeof outer) in_sizeof_lexemes
    pub in_array_ : (outer : Option ℕ) → Plain z (r in_array outer) (c in_array outer) in_array_lexemes
    pub parameters_ : (outer : Option ℕ) → Plain z (r parameters outer) (c parameters outer) all_parameters_lexemes
    pub gate_block_ : (outer : Option ℕ) → Again z (r gate_block outer) (c gate_block outer) (λ xs l. gate_lines_lexemes xs ≡ l) SameGateLines Any

pub record Setting : Type 1 where
  pub streams : Streams
  -- the limit on operators
  pub cap : ℕ
  pub old : (n : Name) → Option ℕ → Reading (Value (sort n))
  pub new : (n : Name) → Option ℕ → Reading (Value (sort n))
  pub names : Names streams old new

-- what a form reads on both sides
abbrev pub Old : Setting → Option ℕ → {t : Sort} → Form t → Reading (Value t)
Old s outer f = ReadsBy s.streams.old s.cap s.old f outer

abbrev pub New : Setting → Option ℕ → {t : Sort} → Form t → Reading (Value t)
New s outer f = ReadsBy s.streams.new s.cap s.new f outer

-- What the form f reads of the old tokens, the form g reads again. W: these lexemes are written for what was read. S: the same but for
-- places. N is asked of the place behind
pub record Reader (s : Setting) (outer : Option ℕ) {t : Sort} (f g : Form t) (W : Value t → List Lexeme → Type 0) (S : Value t → Value t → Type 0) (N : ℕ → Type 0) : Type 0 where
  pub reads : Again s.streams (Old s outer f) (New s outer g) W S N

-- a form without places, for which these lexemes are written
abbrev pub Rereads : (s : Setting) → Option ℕ → {t : Sort} → Form t → (Value t → List Lexeme) → Type 0
Rereads s outer f lexemes = Reader s outer f f (λ v l. lexemes v ≡ l) (λ x y. x ≡ y) Any
