-- The text of lines of printed lexemes gives these lexemes as its tokens.
use Rattle.std.specs.Prelude.{◌≡◌, ℕ, List, length}
use Rattle.qt_lex.specs.declared.tokens.Token.{Token}
use Rattle.qt_lex.specs.Tokens.{GivesTokens}
use Rattle.qt_terminals.specs.declared.terminal.Terminal.TheVariants as w
use Rattle.qt_terminals.specs.Terminals.{terminals, stream}
use Rattle.qt_lexemes.specs.Lexemes.{Lexeme}
use Rattle.qt_print.specs.Statements.{Line}
use Rattle.qt_print.specs.Text.{lines_text}
use Rattle.qt_round_trip.proofs.lexemes.Spelling.{IsSpelled, AllLines}
use Rattle.qt_round_trip.proofs.lexemes.Written.{lexemes_of, Written, Counts}

-- the tokens of the text are these lexemes, and then its end
pub record AreTheLexemes (text : List ℕ) (tokens : List Token) (lexemes : List Lexeme) : Type 0 where
  pub written : Written (stream (terminals text tokens)) lexemes 0 (length lexemes)
  pub end : (stream (terminals text tokens) (length lexemes)).terminal ≡ w.End

-- where each lexeme of some lines is spelled as a token of its kind, the text of the lines gives exactly these lexemes as tokens
abbrev pub GiveTheirLexemes : Type 0
GiveTheirLexemes = (lines : List Line) → AllLines IsSpelled lines → (file : ℕ)
    → (tokens : List Token) × GivesTokens (lines_text 0 lines) file tokens × AreTheLexemes (lines_text 0 lines) tokens (lexemes_of lines)

-- the tokens of a text count its operators, from 0 on
abbrev pub CountOperators : Type 0
CountOperators = (text : List ℕ) (file : ℕ) (tokens : List Token) → GivesTokens text file tokens
    → Counts (stream (terminals text tokens)) × ((stream (terminals text tokens) 0).operators ≡ 0)
