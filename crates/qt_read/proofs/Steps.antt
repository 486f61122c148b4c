-- From what the steps of reading a text find to what is said of the text.
use Rattle.std.proofs.Common.{◌≡◌, ◌≢◌, ℕ, ◌≤◌, List, length, refl, sym, subst}
use Rattle.std.specs.Str.{IsUtf8}
use Rattle.qt_tree.specs.declared.program.Program.{Program}
use Rattle.qt_lex.specs.declared.tokens.Token.{Token}
use Rattle.qt_lex.specs.Tokens.{GivesTokens}
use Rattle.qt_terminals.specs.Terminals.{terminals, stream}
use Rattle.qt_grammar.specs.Spelling.{language_limits}
use Rattle.qt_grammar.specs.Promise.{OnlyProgram}
use Rattle.qt_lookahead.specs.declared.refusal.ParseRefusal.{ParseRefusal}
use Rattle.qt_lookahead.specs.declared.refusal.ParseRefusal.TheVariants as p
use Rattle.qt_parse.specs.Promise.{Refused}
use Rattle.qt_read.specs.Reading.{HasTokens, IsTextOfProgram, IsRefused, IsReason, SpellsOnly, IsStopped, refusal_of, most_bytes, stopped}

-- the tokens that the lexer gave for the characters, said of the bytes
pub has_tokens : (file : ℕ) (text bytes : List ℕ) (given ts : List Token) → text ≡ bytes → length bytes ≤ most_bytes → IsUtf8 bytes → ts ≡ given → GivesTokens text file given → HasTokens file bytes ts
has_tokens file text bytes given ts same within utf8 e h = record {
  within = within;
  utf8 = utf8;
  given = subst (λ t. GivesTokens t file ts) same (subst (GivesTokens text file) (sym e) h);
}

-- what the parser answers about the tokens, said of the text
pub program_of : (file : ℕ) (text bytes : List ℕ) (ts : List Token) → text ≡ bytes → HasTokens file bytes ts → (program : Program) → OnlyProgram (stream (terminals text ts)) language_limits program → IsTextOfProgram file bytes program
unfolding SpellsOnly
program_of file text bytes ts same has program h = record { tokens = ts; has = has; spelled = subst (λ t. OnlyProgram (stream (terminals t ts)) language_limits program) same h }

pub stop : (name : List ℕ) (file : ℕ) (text : List ℕ) (ts : List Token) → HasTokens file text ts → (e : ParseRefusal) → e ≢ p.OutOfMemory → Refused (terminals text ts) e → IsRefused name file text (refusal_of e)
unfolding IsStopped
stop name file text ts has e m h = stopped ts (refusal_of e) has (e, m, h, refl)

reason : (name : List ℕ) (file : ℕ) (text : List ℕ) (ts : List Token) → HasTokens file text ts → (e : ParseRefusal) → Refused (terminals text ts) e → IsReason name file text (refusal_of e)
reason name file text ts has (p.Syntax place) h = stop name file text ts has (p.Syntax place) (λ q. absurd (cc q)) h
reason name file text ts has (p.Nest place) h = stop name file text ts has (p.Nest place) (λ q. absurd (cc q)) h
reason name file text ts has (p.NotInProfile place feature) h = stop name file text ts has (p.NotInProfile place feature) (λ q. absurd (cc q)) h
reason name file text ts has p.OutOfMemory h = tt

pub reason_of : (name : List ℕ) (file : ℕ) (text bytes : List ℕ) (ts : List Token) → text ≡ bytes → HasTokens file bytes ts → (e : ParseRefusal) → Refused (terminals text ts) e → IsReason name file bytes (refusal_of e)
reason_of name file text bytes ts same has e h = reason name file bytes ts has e (subst (λ t. Refused (terminals t ts) e) same h)
