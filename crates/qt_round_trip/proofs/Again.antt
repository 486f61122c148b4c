-- The round trip: from a text to its program, to the canonical text, to the program of that.
use Rattle.std.proofs.Common.{◌≡◌, ℕ, ◌*◌, ◌≤◌, List, length, Ok, sym, ◌∙◌, subst, arith}
use Rattle.std.proofs.lemmas.List.{get_or_past}
use Rattle.qt_tree.specs.declared.program.Program.{Program}
use Rattle.qt_lex.specs.declared.tokens.Token.{Token}
use Rattle.qt_lex.specs.Bytes.{byte}
use Rattle.qt_lex.specs.Tokens.{GivesTokens}
use Rattle.qt_lex.proofs.Exact.{tokens_one, tokens_or_fault}
use Rattle.qt_terminals.specs.Terminals.{terminals, stream}
use Rattle.qt_grammar.specs.Spelling.{language_limits, SpellsProgram}
use Rattle.qt_grammar.specs.Promise.{Parses}
use Rattle.qt_grammar.proofs.Theorems.{one_program, one_parse, spelled_is_parsed}
use Rattle.qt_print.specs.Programs.{program_lines}
use Rattle.qt_print.specs.Text.{canonical}
use Rattle.qt_round_trip.proofs.literals.Kept.{total_length}
use Rattle.qt_round_trip.proofs.lexemes.Written.{lexemes_of}
use Rattle.qt_round_trip.specs.Places.{SameButPlaces}
use Rattle.qt_round_trip.proofs.literals.Faithful.{all_tokens_faithful}
use Rattle.qt_round_trip.proofs.literals.Lengths.{within_the_text}
use Rattle.qt_round_trip.proofs.literals.Numbers.{numbers_again}
use Rattle.qt_round_trip.proofs.relexing.Terminals.{give_their_lexemes}
use Rattle.qt_round_trip.proofs.relexing.Counting.{count_operators}
use Rattle.qt_round_trip.proofs.reparsing.Law.{reads_again}
use Rattle.qt_round_trip.proofs.reparsing.Texts.{texts_have_bit_texts}
use Rattle.qt_round_trip.proofs.extent.Levels.{spelled as lexemes_spelled, short}
use Rattle.qt_round_trip.specs.Laws.{IsReadAgain, RoundTrip, LexesAgain, ParsesAgain, KeepsTheTree, IsBounded, CanBeRead}
use Rattle.qt_round_trip.proofs.SameLines.{same_text}

pub round_trip : RoundTrip
round_trip text file tokens p is other =
    let ts = stream (terminals text tokens) in
    let faithful = all_tokens_faithful text file tokens is.given in
    let lines = program_lines p in
    let given = give_their_lexemes lines (lexemes_spelled ts faithful numbers_again language_limits p is.spelled.spells) other in
    let ws = stream (terminals (canonical p) given.0) in
    let old = count_operators text file tokens is.given in
    let new = count_operators (canonical p) other given.0 given.1 in
    let found = reads_again ts ws old.0 new.0 (old.1 ∙ sym new.1) faithful (texts_have_bit_texts text tokens) numbers_again language_limits p is.spelled.spells (length (lexemes_of lines)) given.2.written given.2.end in
    record {
      tokens = given.0;
      given = given.1;
      program = found.0;
      spelled = record { spells = found.1; only = λ m q s. one_program (terminals (canonical p) given.0) m language_limits q found.0 s found.1 };
      same = found.2;
      text = sym (same_text p found.0 found.2);
    }

-- the tokens of the canonical text are those of the round trip
its_tokens : (p : Program) (other : ℕ) (written : List Token) → GivesTokens (canonical p) other written → (found : IsReadAgain other p) → written ≡ found.tokens
its_tokens p other written given found =
    let text = canonical p in
    tokens_one (byte text) other (length text) (get_or_past text (length text) 0 (omega arith)) 0 written found.tokens given found.given

pub lexes_again : LexesAgain
lexes_again text file tokens p is other place fails =
    let found = round_trip text file tokens p is other in
    let text = canonical p in
    tokens_or_fault (byte text) other (length text) (get_or_past text (length text) 0 (omega arith)) 0 found.tokens fails.0 found.given fails.1

pub parses_again : ParsesAgain
parses_again text file tokens p is other written given answer known parses =
    let found = round_trip text file tokens p is other in
    let all = terminals (canonical p) written in
    let one = its_tokens p other written given found in
    let spelled = subst (λ ws. SpellsProgram (stream (terminals (canonical p) ws)) language_limits found.program) (sym one) found.spelled.spells in
    let right : Parses (stream all) language_limits (Ok found.program) = spelled_is_parsed all language_limits found.program spelled in
    (found.program, one_parse all language_limits answer (Ok found.program) known (λ e. absurd (cc e)) parses right, found.same, found.text)

pub keeps_the_program : KeepsTheTree
keeps_the_program text file tokens p other written q is its =
    let found = round_trip text file tokens p is other in
    let one = its_tokens p other written its.given found in
    let spells = subst (λ ws. SpellsProgram (stream (terminals (canonical p) ws)) language_limits q) one its.spelled.spells in
    subst (SameButPlaces p) (sym (found.spelled.only language_limits q spells)) found.same

pub bounded : IsBounded
bounded text file tokens p is =
    let ts = stream (terminals text tokens) in
    let h = is.spelled.spells in
    let a : length (canonical p) ≤ 500 * total_length ts h.0 = short ts (all_tokens_faithful text file tokens is.given) numbers_again language_limits p (omega arith) h in
    let b : total_length ts h.0 ≤ length text = within_the_text text file tokens is.given h.0 in
    omega (arith, a, b)

pub can_be_read : CanBeRead
can_be_read text file tokens p is small =
    let a = bounded text file tokens p is in
    omega (arith, a, small)
