-- A text has exactly one outcome.
use Rattle.std.proofs.Common.{◌≡◌, ℕ, ◌≤◌, ◌⊎◌, inl, inr, List, length, refl, sym, ap, ◌∙◌, subst, arith}
use Rattle.std.specs.Str.{IsUtf8, IsValidUpTo}
use Rattle.std.proofs.lemmas.Str.{utf8_valid_len-IsValidUpTo}
use Rattle.qt_tree.specs.declared.place.Place.{Place}
use Rattle.qt_tree.specs.declared.program.Program.{Program}
use Rattle.qt_tree.specs.declared.refusal.TextRefusal.{TextRefusal}
use Rattle.qt_tree.specs.declared.refusal.TextRefusal.TheVariants as r
use Rattle.qt_lex.specs.declared.tokens.Token.{Token}
use Rattle.qt_lex.specs.Tokens.{GivesTokens, FailsAt}
use Rattle.qt_lex.proofs.Tables.{compare2}
use Rattle.qt_lex.proofs.Readings.{some_reading, one_list, one_fault, list_or_fault}
use Rattle.qt_terminals.specs.Terminals.{terminals}
use Rattle.qt_read.specs.Reading.{most_bytes, refusal_of, HasTokens, IsTextOfProgram, IsRefused, HasOneOutcome, SpellsOnly, IsStopped, long, no_utf8, no_token, stopped}
use Rattle.qt_read.proofs.Answered.{Answered, answered}
use Rattle.qt_read.proofs.Fronts.{utf8_or_front}
use Rattle.qt_read.proofs.Steps.{program_of, stop}
use Rattle.qt_read.proofs.Stops.{one_program, one_stop, program_or_stop}

abbrev Outcome : List ℕ → ℕ → List ℕ → Type 0
Outcome name file text = ((program : Program) × IsTextOfProgram file text program) ⊎ ((refusal : TextRefusal) × IsRefused name file text refusal)

-- a text that has these bytes at most and is UTF-8
of_characters : (name : List ℕ) (file : ℕ) (text : List ℕ) → length text ≤ most_bytes → IsUtf8 text
    → ((tokens : List Token) × GivesTokens text file tokens) ⊎ ((place : Place) × FailsAt text file place) → Outcome name file text
of_characters name file text within utf8 (inr (place, fails)) = inr (r.E3 place, no_token place within utf8 fails)
of_characters name file text within utf8 (inl (tokens, given)) = of_tokens (answered (terminals text tokens))
  where
    has : HasTokens file text tokens
    has = record { within = within; utf8 = utf8; given = given }

    of_tokens : Answered (terminals text tokens) → Outcome name file text
    of_tokens (inl (tree, only)) = inl (tree, program_of file text text tokens refl has tree only)
    of_tokens (inr (e, m, h)) = inr (refusal_of e, stop name file text tokens has e m h)

-- a text is that of a program, or is refused
pub some_outcome : (name : List ℕ) (file : ℕ) (text : List ℕ)
    → ((program : Program) × IsTextOfProgram file text program) ⊎ ((refusal : TextRefusal) × IsRefused name file text refusal)
some_outcome name file text = elim (compare2 (length text) most_bytes) [
  | inr above ↦ inr (r.E2 name, long above)
  | inl within ↦ elim (utf8_or_front text) [
    | inl utf8 ↦ of_characters name file text within utf8 (some_reading text file)
    | inr bad ↦ inr (r.E1 name bad.0, no_utf8 bad.0 within bad.1 bad.2)
  ]
]

-- a text of which a front is the longest that is UTF-8 isn't UTF-8 itself
one_count : (text : List ℕ) (m n : ℕ) → IsValidUpTo text m → IsValidUpTo text n → m ≡ n
one_count text m n h g = sym (utf8_valid_len-IsValidUpTo text m h) ∙ utf8_valid_len-IsValidUpTo text n g

same_spelling : (file : ℕ) (text : List ℕ) (ts us : List Token) (q : Program) → HasTokens file text ts → HasTokens file text us → SpellsOnly text us q → SpellsOnly text ts q
same_spelling file text ts us q h g s = subst (λ x. SpellsOnly text x q) (one_list text file us ts g.given h.given) s

same_stop : (file : ℕ) (text : List ℕ) (ts us : List Token) (q : TextRefusal) → HasTokens file text ts → HasTokens file text us → IsStopped text us q → IsStopped text ts q
same_stop file text ts us q h g s = subst (λ x. IsStopped text x q) (one_list text file us ts g.given h.given) s

programs : (file : ℕ) (text : List ℕ) (p q : Program) → IsTextOfProgram file text p → IsTextOfProgram file text q → p ≡ q
programs file text p q h g = one_program text h.tokens p q h.spelled (same_spelling file text h.tokens g.tokens q h.has g.has g.spelled)

either : (name : List ℕ) (file : ℕ) (text : List ℕ) (p : Program) (q : TextRefusal) → IsTextOfProgram file text p → IsRefused name file text q → ⊥
either name file text p q h (long l) = let w = h.has.within in absurd (omega (arith, w, l))
either name file text p q h (no_utf8 count l none v) = none h.has.utf8
either name file text p q h (no_token place l u f) = list_or_fault text file h.tokens place h.has.given f
either name file text p q h (stopped ts e has s) = program_or_stop text h.tokens p e h.spelled (same_stop file text h.tokens ts e h.has has s)

refusals : (name : List ℕ) (file : ℕ) (text : List ℕ) (p q : TextRefusal) → IsRefused name file text p → IsRefused name file text q → p ≡ q
refusals name file text p q (long l) (long k) = refl
refusals name file text p q (long l) (no_utf8 count k none v) = absurd (omega (arith, l, k))
refusals name file text p q (long l) (no_token place k u f) = absurd (omega (arith, l, k))
refusals name file text p q (long l) (stopped ts e has s) = let w = has.within in absurd (omega (arith, w, l))
refusals name file text p q (no_utf8 count l none v) (long k) = absurd (omega (arith, l, k))
refusals name file text p q (no_utf8 count l none v) (no_utf8 other k never g) = ap (r.E1 name) (one_count text count other v g)
refusals name file text p q (no_utf8 count l none v) (no_token place k u f) = absurd (none u)
refusals name file text p q (no_utf8 count l none v) (stopped ts e has s) = absurd (none has.utf8)
refusals name file text p q (no_token place l u f) (long k) = absurd (omega (arith, l, k))
refusals name file text p q (no_token place l u f) (no_utf8 count k none v) = absurd (none u)
refusals name file text p q (no_token place l u f) (no_token other k w g) = ap r.E3 (one_fault text file place other f g)
refusals name file text p q (no_token place l u f) (stopped ts e has s) = absurd (list_or_fault text file ts place has.given f)
refusals name file text p q (stopped ts e has s) (long l) = let w = has.within in absurd (omega (arith, w, l))
refusals name file text p q (stopped ts e has s) (no_utf8 count k none v) = absurd (none has.utf8)
refusals name file text p q (stopped ts e has s) (no_token place k u f) = absurd (list_or_fault text file ts place has.given f)
refusals name file text p q (stopped ts e has s) (stopped us f had t) = one_stop text ts e f s (same_stop file text ts us f has had t)

pub one_outcome : (name : List ℕ) (file : ℕ) (text : List ℕ) → HasOneOutcome name file text
one_outcome name file text = record { some = some_outcome name file text; programs = programs file text; refusals = refusals name file text; either = either name file text }
