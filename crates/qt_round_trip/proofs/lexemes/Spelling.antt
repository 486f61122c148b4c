-- Which token each printed lexeme is: its kind, its terminal in the grammar, and that its bytes are spelled as a token of that kind.
-- OpenQASM 3.0 live specification, the lexical grammar in its appendix.
use Rattle.std.specs.Prelude.{◌≡◌, ℕ, ◌⊎◌, List, [], ◌∷◌, length, codes}
use Rattle.qt_lex.specs.declared.tokens.Kind.{Kind}
use Rattle.qt_lex.specs.declared.tokens.Kind.TheVariants as kind
use Rattle.qt_lex.specs.Bytes.{byte, reserved_words, symbols}
use Rattle.qt_lex.specs.Tokens.{IsToken}
use Rattle.qt_terminals.specs.declared.terminal.Terminal.{Terminal}
use Rattle.qt_terminals.specs.Alphabet.{terminal_of}
use Rattle.qt_lexemes.specs.declared.role.Role.{Role}
use Rattle.qt_lexemes.specs.declared.role.Role.TheVariants as r
use Rattle.qt_lexemes.specs.Lexemes.{Lexeme}
use Rattle.qt_print.specs.Statements.{Line}

-- the kind of token that a lexeme of this role is
abbrev pub kind_of : Role → Kind
kind_of r.Name = kind.Name
kind_of r.Integer = kind.Integer
kind_of r.Decimal = kind.Decimal
kind_of r.Text = kind.Text
kind_of r.Constant = kind.Constant
kind_of r.Keyword = kind.Reserved
kind_of r.Head = kind.Reserved
kind_of r.Else = kind.Reserved
kind_of r.In = kind.Reserved
kind_of _ = kind.Symbol

-- what the grammar sees of a printed lexeme
abbrev pub meaning : Lexeme → Terminal
meaning lexeme = terminal_of (kind_of lexeme.role) lexeme.text

-- a text is one of these
abbrev pub IsAmong : List (List ℕ) → List ℕ → Type 0
IsAmong [] text = ⊥
IsAmong (one ∷ others) text = (text ≡ one) ⊎ IsAmong others text

-- the bytes are, by themselves, a token of the role's kind. A sign or bracket is one of the few of its role
abbrev pub IsSpelledAs : Role → List ℕ → Type 0
IsSpelledAs r.Name text = IsToken (byte text) kind.Name 0 (length text)
IsSpelledAs r.Integer text = IsToken (byte text) kind.Integer 0 (length text)
IsSpelledAs r.Decimal text = IsToken (byte text) kind.Decimal 0 (length text)
IsSpelledAs r.Text text = IsToken (byte text) kind.Text 0 (length text)
IsSpelledAs r.Constant text = IsAmong (codes "pi" ∷ codes "tau" ∷ []) text
IsSpelledAs r.Keyword text = IsAmong reserved_words text
IsSpelledAs r.Head text = IsAmong reserved_words text
IsSpelledAs r.Else text = IsAmong reserved_words text
IsSpelledAs r.In text = IsAmong reserved_words text
IsSpelledAs r.Operator text = IsAmong symbols text
IsSpelledAs r.Sign text = IsAmong (codes "!" ∷ codes "~" ∷ codes "-" ∷ []) text
IsSpelledAs r.Comma text = IsAmong (codes "," ∷ []) text
IsSpelledAs r.Colon text = IsAmong (codes ":" ∷ []) text
IsSpelledAs r.Semicolon text = IsAmong (codes ";" ∷ []) text
IsSpelledAs r.Opening text = IsAmong (codes "(" ∷ codes "[" ∷ codes "{" ∷ []) text
IsSpelledAs r.ClosingParenthesis text = IsAmong (codes ")" ∷ []) text
IsSpelledAs r.ClosingBracket text = IsAmong (codes "]" ∷ []) text
IsSpelledAs r.ClosingBrace text = IsAmong (codes "}" ∷ []) text
IsSpelledAs r.BodyStart text = IsAmong (codes "{" ∷ []) text
IsSpelledAs r.BodyEnd text = IsAmong (codes "}" ∷ []) text

abbrev pub IsSpelled : Lexeme → Type 0
IsSpelled lexeme = IsSpelledAs lexeme.role lexeme.text

-- each of these lexemes, each lexeme of these lines
abbrev pub AllLexemes : (Lexeme → Type 0) → List Lexeme → Type 0
AllLexemes P [] = Unit {0}
AllLexemes P (lexeme ∷ lexemes) = P lexeme × AllLexemes P lexemes

abbrev pub AllLines : (Lexeme → Type 0) → List Line → Type 0
AllLines P [] = Unit {0}
AllLines P (line ∷ lines) = AllLexemes P line.lexemes × AllLines P lines
