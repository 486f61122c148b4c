-- What reading the canonical text of a program answers, by the places of that text.
use Rattle.std.specs.Prelude.{ℕ, ◌^◌, ◌<◌, ◌≤◌, List, length}
use Rattle.qt_tree.specs.declared.program.Program.{Program}
use Rattle.qt_lex.specs.declared.tokens.Token.{Token}
use Rattle.qt_lex.specs.Tokens.{GivesTokens, FailsAt}
use Rattle.qt_terminals.specs.Terminals.{terminals}
use Rattle.qt_lookahead.specs.declared.refusal.ParseRefusal.{ParseRefusal}
use Rattle.qt_lookahead.specs.declared.refusal.ParseRefusal.TheVariants as p
use Rattle.qt_parse.specs.Promise.{IsToldBy}
use Rattle.qt_round_trip.specs.declared.read_back.Unread.{Unread}
use Rattle.qt_round_trip.specs.declared.read_back.Unread.TheVariants as u
use Rattle.qt_round_trip.specs.Laws.{ReadsAs}

-- the text with that number is that of this program, and of no other
abbrev pub IsTextOf : ℕ → List ℕ → Program → Type 0
IsTextOf file text program = (tokens : List Token) × ReadsAs text file tokens program

-- a program was read from a text that is no longer than a text may be
pub record WasRead (program : Program) : Type 0 where
  pub text : List ℕ
  pub file : ℕ
  pub short : length text ≤ 2 ^ 20
  pub read : IsTextOf file text program

-- a refusal of tokens as one of their text
abbrev pub unread_of : ParseRefusal → Unread
unread_of (p.Syntax place) = u.Syntax place
unread_of (p.Nest place) = u.Nest place
unread_of (p.NotInProfile place feature) = u.NotInProfile place feature
unread_of p.OutOfMemory = u.OutOfMemory

-- the text gives tokens that spell no program within the limits, and this refusal tells the token at fault
abbrev pub IsStopped : ℕ → List ℕ → Unread → Type 0
IsStopped file text refusal = (tokens : List Token) × GivesTokens text file tokens × IsToldBy (terminals text tokens) unread_of refusal

-- why a text with that number isn't read, but for want of memory
abbrev pub IsUnread : ℕ → List ℕ → Unread → Type 0
IsUnread file text u.Long = 2 ^ 31 < length text
IsUnread file text (u.Token place) = FailsAt text file place
IsUnread file text u.OutOfMemory = Unit {0}
IsUnread file text refusal = IsStopped file text refusal
