-- The canonical text of a program that was read is read as that program, but for places.
use Rattle.std.proofs.Common.{◌≡◌, ◌≢◌, ℕ, List, Result, Ok, Err, MatchResult, refl, arith}
use Rattle.qt_tree.specs.declared.program.Program.{Program}
use Rattle.qt_lex.specs.declared.tokens.Token.{Token}
use Rattle.qt_lex.specs.Tokens.{GivesTokens}
use Rattle.qt_terminals.specs.Terminals.{terminals, stream}
use Rattle.qt_grammar.specs.declared.refusal.Refusal.{Refusal}
use Rattle.qt_grammar.specs.declared.refusal.Refusal.TheVariants.{Syntax, Nest, OutOfMemory}
use Rattle.qt_grammar.specs.Spelling.{language_limits}
use Rattle.qt_grammar.specs.Promise.{Parses}
use Rattle.qt_lookahead.specs.declared.refusal.ParseRefusal.TheVariants as p
use Rattle.qt_print.specs.Text.{canonical}
use Rattle.qt_round_trip.specs.declared.read_back.Unread.{Unread}
use Rattle.qt_round_trip.specs.declared.read_back.Unread.TheVariants as u
use Rattle.qt_round_trip.specs.Places.{SameButPlaces}
use Rattle.qt_round_trip.specs.ReadBack.{WasRead, IsTextOf, IsUnread, IsStopped}
use Rattle.qt_round_trip.proofs.Again.{keeps_the_program, lexes_again, parses_again, can_be_read}

module _ (program : Program) (was : WasRead program) (file : ℕ) where
  -- no answer of a parser but a program is right for the tokens of the canonical text
  never : (tokens : List Token) → GivesTokens (canonical program) file tokens → (why : Refusal) → why ≢ OutOfMemory → Parses (stream (terminals (canonical program) tokens)) language_limits (Err why) → ⊥
  never tokens given why known parses =
      let found = parses_again was.text was.file was.read.0 program was.read.1 file tokens given (Err why) (λ e. known (refusal_same e)) parses in
      absurd (cc found.1)
    where
      refused : Refusal → Result Program Refusal
      refused x = Err x

      refusal_same : {x y : Refusal} → refused x ≡ refused y → x ≡ y
      refusal_same e = cc

  never_stopped : (refusal : Unread) → IsStopped file (canonical program) refusal → ⊥
  never_stopped refusal (tokens, given, (p.Syntax place, known, h, same)) = never tokens given (Syntax h.0) (λ e. absurd (cc e)) h.1.stopper
  never_stopped refusal (tokens, given, (p.NotInProfile place feature, known, h, same)) = never tokens given (Syntax h.0) (λ e. absurd (cc e)) h.1.stopper
  never_stopped refusal (tokens, given, (p.Nest place, known, h, same)) = never tokens given (Nest h.0) (λ e. absurd (cc e)) h.1.first
  never_stopped refusal (tokens, given, (p.OutOfMemory, known, h, same)) = absurd (known refl)

  only_memory : (refusal : Unread) → IsUnread file (canonical program) refusal → refusal ≡ u.OutOfMemory
  only_memory u.Long long = let short = can_be_read was.text was.file was.read.0 program was.read.1 was.short in absurd (omega (arith, long, short))
  only_memory (u.Token place) fails = absurd (lexes_again was.text was.file was.read.0 program was.read.1 file place fails)
  only_memory (u.Syntax place) h = absurd (never_stopped (u.Syntax place) h)
  only_memory (u.Nest place) h = absurd (never_stopped (u.Nest place) h)
  only_memory (u.NotInProfile place feature) h = absurd (never_stopped (u.NotInProfile place feature) h)
  only_memory u.OutOfMemory h = refl

pub same_back : (program : Program) (file : ℕ) (result : Result Program Unread) → MatchResult result (IsTextOf file (canonical program)) (IsUnread file (canonical program)) → WasRead program → MatchResult result (SameButPlaces program) (λ why. why ≡ u.OutOfMemory)
same_back program file (Ok again) h was = keeps_the_program was.text was.file was.read.0 program file h.0 again was.read.1 h.1
same_back program file (Err why) h was = only_memory program was file why h
