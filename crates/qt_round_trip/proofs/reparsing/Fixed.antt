-- The grammar's terminal for each printed lexeme: one of a fixed spelling, by a table; a name, a number and a text by its kind.
use Rattle.std.proofs.Common.{◌≡◌, ℕ, inl, inr, Bool, true, false, not, ◌&&◌, ◌||◌, eqb, bytes_eq, List, [], ◌∷◌, if◌then◌else◌, codes, refl, sym, ◌∙◌, ap, subst}
use Rattle.qt_lex.specs.declared.tokens.Kind.{Kind}
use Rattle.qt_lex.specs.declared.tokens.Kind.TheVariants as kind
use Rattle.qt_lex.proofs.Tables.{and_left, and_right, or_cases, not_false, eqb_same}
use Rattle.qt_terminals.specs.declared.terminal.Terminal.{Terminal}
use Rattle.qt_terminals.specs.declared.terminal.Terminal.TheVariants as w
use Rattle.qt_terminals.specs.Alphabet.{code, terminal_of, reserved_words, symbols, constants}
use Rattle.qt_terminals.specs.Literals.{is_bit_text}
use Rattle.qt_terminals.proofs.Codes.{code_same}
use Rattle.qt_grammar.specs.Form.{member}
use Rattle.qt_lexemes.specs.declared.role.Role.TheVariants as r
use Rattle.qt_lexemes.specs.Lexemes.{Lexeme, lexeme, name, integer}
use Rattle.qt_round_trip.proofs.lexemes.Spelling.{kind_of, meaning}
use Rattle.qt_round_trip.proofs.lexemes.Tables.{same_is}

pub name_means : (text : List ℕ) → meaning (name text) ≡ w.Name
unfolding terminal_of
name_means text = refl

pub integer_means : (value : ℕ) → meaning (integer value) ≡ w.Integer
unfolding terminal_of
integer_means value = refl

pub decimal_means : (text : List ℕ) → meaning (lexeme r.Decimal text) ≡ w.Decimal
unfolding terminal_of
decimal_means text = refl

-- a text in quotes is a bit string or another text
pub text_means : (text : List ℕ) → meaning (lexeme r.Text text) ≡ (if is_bit_text text then w.BitText else w.Text)
unfolding terminal_of
text_means text = refl

-- the printed lexeme is this terminal of the grammar, and not the end of a text
pub record Fixed (m : Lexeme) (k : Terminal) : Type 0 where
  pub means : meaning m ≡ k
  pub going_on : member 0 (code k ∷ []) ≡ false

-- the lexemes of a fixed spelling, but for operators, by the kind of their token
abbrev pub rows : Kind → List (List ℕ × Terminal)
rows kind.Constant = (codes "pi", w.Pi) ∷ (codes "tau", w.Tau) ∷ []
rows kind.Symbol =
    (codes "(", w.LeftParen) ∷ (codes ")", w.RightParen) ∷ (codes "[", w.LeftBracket) ∷ (codes "]", w.RightBracket) ∷
    (codes "{", w.LeftBrace) ∷ (codes "}", w.RightBrace) ∷ (codes ";", w.Semicolon) ∷ (codes ",", w.Comma) ∷
    (codes ":", w.Colon) ∷ (codes "@", w.At) ∷ (codes "->", w.Arrow) ∷ (codes "=", w.Assign) ∷ (codes "++", w.PlusPlus) ∷ []
rows kind.Reserved =
    (codes "if", w.If) ∷ (codes "else", w.Else) ∷ (codes "while", w.While) ∷ (codes "for", w.For) ∷ (codes "in", w.In) ∷
    (codes "break", w.Break) ∷ (codes "continue", w.Continue) ∷ (codes "return", w.Return) ∷ (codes "end", w.EndWord) ∷
    (codes "bool", w.Bool) ∷ (codes "bit", w.Bit) ∷ (codes "int", w.Int) ∷ (codes "uint", w.Uint) ∷ (codes "angle", w.Angle) ∷
    (codes "true", w.True) ∷ (codes "false", w.False) ∷ (codes "sizeof", w.SizeOf) ∷ (codes "measure", w.Measure) ∷
    (codes "reset", w.Reset) ∷ (codes "barrier", w.Barrier) ∷ (codes "gphase", w.GPhase) ∷ (codes "inv", w.Inv) ∷
    (codes "pow", w.Pow) ∷ (codes "ctrl", w.Ctrl) ∷ (codes "negctrl", w.NegCtrl) ∷ (codes "creg", w.Creg) ∷
    (codes "const", w.Const) ∷ (codes "let", w.Let) ∷ (codes "OPENQASM", w.OpenQasm) ∷ (codes "include", w.Include) ∷
    (codes "input", w.Input) ∷ (codes "output", w.Output) ∷ (codes "array", w.Array) ∷ (codes "gate", w.Gate) ∷
    (codes "def", w.Def) ∷ (codes "qubit", w.Qubit) ∷ (codes "qreg", w.Qreg) ∷ []
rows _ = []

-- each row holds: a token of this kind and text is its terminal, which isn't the end
abbrev are_terminals : Kind → List (List ℕ × Terminal) → Bool
are_terminals kind [] = true
are_terminals kind ((text, k) ∷ rest) = (eqb (code (terminal_of kind text)) (code k) && not (member 0 (code k ∷ []))) && are_terminals kind rest

rows_hold : (kind : Kind) → are_terminals kind (rows kind) ≡ true
unfolding terminal_of reserved_words symbols constants
rows_hold kind.Constant = refl
rows_hold kind.Symbol = refl
rows_hold kind.Reserved = refl
rows_hold _ = refl

abbrev pub has_row : List (List ℕ × Terminal) → List ℕ → Terminal → Bool
has_row [] text k = false
has_row ((first, l) ∷ rest) text k = (bytes_eq text first && eqb (code k) (code l)) || has_row rest text k

row_holds : (kind : Kind) (all : List (List ℕ × Terminal)) (text : List ℕ) (k : Terminal) → are_terminals kind all ≡ true → has_row all text k ≡ true → (terminal_of kind text ≡ k) × (member 0 (code k ∷ []) ≡ false)
row_holds kind [] text k hold h = absurd (cc h)
row_holds kind ((first, l) ∷ rest) text k hold h = elim (or_cases (bytes_eq text first && eqb (code k) (code l)) (has_row rest text k) h) [
  | inl here ↦ let row = and_left (eqb (code (terminal_of kind first)) (code l) && not (member 0 (code l ∷ []))) (are_terminals kind rest) hold in
      let is : k ≡ l = code_same k l (eqb_same (code k) (code l) (and_right (bytes_eq text first) (eqb (code k) (code l)) here)) in
      let means : terminal_of kind first ≡ l = code_same (terminal_of kind first) l (eqb_same _ (code l) (and_left (eqb (code (terminal_of kind first)) (code l)) (not (member 0 (code l ∷ []))) row)) in (
        ap (terminal_of kind) (same_is text first (and_left (bytes_eq text first) (eqb (code k) (code l)) here)) ∙ (means ∙ sym is),
        subst (λ t. member 0 (code t ∷ []) ≡ false) (sym is) (not_false (member 0 (code l ∷ [])) (and_right (eqb (code (terminal_of kind first)) (code l)) (not (member 0 (code l ∷ []))) row)),
      )
  | inr there ↦ row_holds kind rest text k (and_right (eqb (code (terminal_of kind first)) (code l) && not (member 0 (code l ∷ []))) (are_terminals kind rest) hold) there
]

-- a printed lexeme of the table is this terminal of the grammar
abbrev pub IsRow : Lexeme → Terminal → Type 0
IsRow m k = has_row (rows (kind_of m.role)) m.text k ≡ true

pub fixed : (m : Lexeme) (k : Terminal) → IsRow m k → Fixed m k
fixed m k h = let found = row_holds (kind_of m.role) (rows (kind_of m.role)) m.text k (rows_hold (kind_of m.role)) h in record { means = found.0; going_on = found.1 }
