-- When a text is that of a program, and why it is that of none: it is too long, or isn't UTF-8, or has no tokens, or its tokens
-- spell no program. OpenQASM 3.0 live specification, "Comments" (a source file is UTF-8 text) and the grammar in its appendix.
use Rattle.std.specs.Prelude.{◌≡◌, ℕ, ◌<◌, ◌≤◌, ◌⊎◌, List, length}
use Rattle.std.specs.Str.{IsUtf8, IsValidUpTo}
use Rattle.qt_tree.specs.declared.place.Place.{Place}
use Rattle.qt_tree.specs.declared.program.Program.{Program}
use Rattle.qt_tree.specs.declared.refusal.TextRefusal.{TextRefusal}
use Rattle.qt_tree.specs.declared.refusal.TextRefusal.TheVariants as r
use Rattle.qt_lex.specs.declared.tokens.Token.{Token}
use Rattle.qt_lex.specs.Tokens.{GivesTokens, FailsAt}
use Rattle.qt_terminals.specs.Terminals.{terminals, stream}
use Rattle.qt_grammar.specs.Spelling.{language_limits}
use Rattle.qt_grammar.specs.Promise.{OnlyProgram}
use Rattle.qt_lookahead.specs.declared.refusal.ParseRefusal.{ParseRefusal}
use Rattle.qt_lookahead.specs.declared.refusal.ParseRefusal.TheVariants as p
use Rattle.qt_parse.specs.Promise.{IsToldBy}

-- the most bytes that a text may have
abbrev pub most_bytes : ℕ
most_bytes = 1048576

-- the tokens of a text spell this program within the limits, and no other whatever the limits
unfoldable pub SpellsOnly : List ℕ → List Token → Program → Type 0
SpellsOnly text tokens program = OnlyProgram (stream (terminals text tokens)) language_limits program

-- a refusal of tokens as one of the text
abbrev pub refusal_of : ParseRefusal → TextRefusal
refusal_of (p.Syntax place) = r.E4 place
refusal_of (p.Nest place) = r.E5 place
refusal_of (p.NotInProfile place feature) = r.E6 place feature
refusal_of p.OutOfMemory = r.OutOfMemory

-- the tokens of a text spell no program within the limits, and this refusal tells the token at fault: it is too deep, or it is the
-- stopper, of a feature that the profile leaves out or of none
unfoldable pub IsStopped : List ℕ → List Token → TextRefusal → Type 0
IsStopped text tokens refusal = IsToldBy (terminals text tokens) refusal_of refusal

-- a text that isn't too long and is UTF-8 gives these tokens
pub record HasTokens (file : ℕ) (text : List ℕ) (tokens : List Token) : Type 0 where
  pub within : length text ≤ most_bytes
  pub utf8 : IsUtf8 text
  pub given : GivesTokens text file tokens

-- the text with that number is that of the program
pub record IsTextOfProgram (file : ℕ) (text : List ℕ) (program : Program) : Type 0 where
  pub tokens : List Token
  pub has : HasTokens file text tokens
  pub spelled : SpellsOnly text tokens program

-- the text of that name and number is that of no program, for this reason, which is the first that holds
pub data IsRefused (name : List ℕ) (file : ℕ) (text : List ℕ) : TextRefusal → Type 0 where
  long : most_bytes < length text → IsRefused name file text (r.E2 name)
  no_utf8 : (count : ℕ) → length text ≤ most_bytes → ¬ IsUtf8 text → IsValidUpTo text count → IsRefused name file text (r.E1 name count)
  no_token : (place : Place) → length text ≤ most_bytes → IsUtf8 text → FailsAt text file place → IsRefused name file text (r.E3 place)
  stopped : (tokens : List Token) (refusal : TextRefusal)
      → HasTokens file text tokens → IsStopped text tokens refusal → IsRefused name file text refusal

-- what reading a text answers, but for want of memory
abbrev pub IsReason : List ℕ → ℕ → List ℕ → TextRefusal → Type 0
IsReason name file text r.OutOfMemory = Unit {0}
IsReason name file text refusal = IsRefused name file text refusal

-- a text is that of exactly one program, or is refused for exactly one reason, and never both
pub record HasOneOutcome (name : List ℕ) (file : ℕ) (text : List ℕ) : Type 0 where
  pub some : ((program : Program) × IsTextOfProgram file text program) ⊎ ((refusal : TextRefusal) × IsRefused name file text refusal)
  pub programs : (p q : Program) → IsTextOfProgram file text p → IsTextOfProgram file text q → p ≡ q
  pub refusals : (p q : TextRefusal) → IsRefused name file text p → IsRefused name file text q → p ≡ q
  pub either : (p : Program) (q : TextRefusal) → IsTextOfProgram file text p → IsRefused name file text q → ⊥
