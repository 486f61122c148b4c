-- The lexemes that are printed, and how they stand together: in parentheses, brackets and braces, and in lists. The lexemes are
-- the tokens of the OpenQASM 3.0 live specification, "Comments", "Identifiers", "Literals" and its lexical grammar.
use Rattle.std.specs.Prelude.{ℕ, List, [], ◌∷◌, ◌++◌, Option, Some, None, codes}
use Rattle.std.specs.Fmt.{decimal}
use Rattle.qt_lexemes.specs.declared.role.Role.{Role}
use Rattle.qt_lexemes.specs.declared.role.Role.TheVariants as r
use Rattle.qt_lexemes.specs.Literals.{bit_text, quoted}

-- a lexeme: what it is to its neighbours, and its bytes
pub record Lexeme : Type 0 where
  pub role : Role
  pub text : List ℕ

abbrev pub lexeme : Role → List ℕ → Lexeme
lexeme role text = record { role = role; text = text }

abbrev pub name : List ℕ → Lexeme
name text = lexeme r.Name text

abbrev pub keyword : List ℕ → Lexeme
keyword text = lexeme r.Keyword text

abbrev pub integer : ℕ → Lexeme
integer value = lexeme r.Integer (decimal value)

-- a bit string of so many digits
abbrev pub bits : ℕ → ℕ → Lexeme
bits value length = lexeme r.Text (bit_text value length)

-- a text in quotes
abbrev pub quotation : List ℕ → Lexeme
quotation text = lexeme r.Text (quoted text)

abbrev pub operator : List ℕ → Lexeme
operator text = lexeme r.Operator text

abbrev pub opening : List ℕ → Lexeme
opening text = lexeme r.Opening text

abbrev pub comma : Lexeme
comma = lexeme r.Comma (codes ",")

abbrev pub colon : Lexeme
colon = lexeme r.Colon (codes ":")

abbrev pub semicolon : Lexeme
semicolon = lexeme r.Semicolon (codes ";")

abbrev pub parenthesized : List Lexeme → List Lexeme
parenthesized lexemes = opening (codes "(") ∷ (lexemes ++ lexeme r.ClosingParenthesis (codes ")") ∷ [])

abbrev pub bracketed : List Lexeme → List Lexeme
bracketed lexemes = opening (codes "[") ∷ (lexemes ++ lexeme r.ClosingBracket (codes "]") ∷ [])

-- a list or a set, which stands on one line
abbrev pub braced : List Lexeme → List Lexeme
braced lexemes = opening (codes "{") ∷ (lexemes ++ lexeme r.ClosingBrace (codes "}") ∷ [])

-- parts behind others, each behind this lexeme
abbrev pub each_behind : Lexeme → List (List Lexeme) → List Lexeme
each_behind between [] = []
each_behind between (part ∷ parts) = between ∷ (part ++ each_behind between parts)

-- parts with this lexeme between
abbrev pub separated : Lexeme → List (List Lexeme) → List Lexeme
separated between [] = []
separated between (part ∷ parts) = part ++ each_behind between parts

abbrev pub joined : List (List Lexeme) → List Lexeme
joined [] = []
joined (part ∷ parts) = part ++ joined parts

-- nothing, or the lexemes of what is there
abbrev pub optional : {A : Type 0} → (A → List Lexeme) → Option A → List Lexeme
optional lexemes None = []
optional lexemes (Some part) = lexemes part

abbrev pub itself : List Lexeme → List Lexeme
itself lexemes = lexemes
