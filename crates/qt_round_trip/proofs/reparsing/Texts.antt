-- Each bit string of a text is spelled as one.
use Rattle.std.proofs.Common.{◌≡◌, ℕ, zero, suc, ◌&&◌, not, eqb, Bool, true, false, if◌then◌else◌, bytes_eq, IsTrue, List, [], ◌∷◌, refl, subst}
use Rattle.qt_lex.specs.declared.tokens.Kind.{Kind}
use Rattle.qt_lex.specs.declared.tokens.Kind.TheVariants as kind
use Rattle.qt_lex.specs.declared.tokens.Token.{Token}
use Rattle.qt_lex.proofs.Tables.{and_left, and_right}
use Rattle.qt_terminals.specs.declared.terminal.Terminal.{Terminal}
use Rattle.qt_terminals.specs.declared.terminal.Terminal.TheVariants as w
use Rattle.qt_terminals.specs.Literals.{is_bit_text}
use Rattle.qt_terminals.specs.Alphabet.{code, terminal_in, terminal_of, reserved_words, symbols, constants, hashes}
use Rattle.qt_terminals.specs.Terminals.{behind, terminals, terminals_behind, terminal_at, spelling_of, stream}
use Rattle.qt_round_trip.proofs.reparsing.Laws.{HasBitTexts, TextsHaveBitTexts}

-- no row of a table is a bit string
abbrev has_none : List (List ℕ × Terminal) → Bool
has_none [] = true
has_none ((text, lexeme) ∷ rest) = not (eqb (code lexeme) (code w.BitText)) && has_none rest

not_in : (rows : List (List ℕ × Terminal)) (other : Terminal) (s : List ℕ) → has_none rows ≡ true → (other ≡ w.BitText → ⊥) → terminal_in rows other s ≡ w.BitText → ⊥
not_in [] other s h no_other e = no_other e
not_in ((text, lexeme) ∷ rest) other s h no_other e = at_test (bytes_eq s text) (not_in rest other s (and_right (not (eqb (code lexeme) (code w.BitText))) (has_none rest) h) no_other) e
  where
    at_test : (v : Bool) → (terminal_in rest other s ≡ w.BitText → ⊥) → (if v then lexeme else terminal_in rest other s) ≡ w.BitText → ⊥
    at_test true later g = let f : not (eqb (code w.BitText) (code w.BitText)) ≡ true = subst (λ k. not (eqb (code k) (code w.BitText)) ≡ true) g (and_left (not (eqb (code lexeme) (code w.BitText))) (has_none rest) h) in cc f
    at_test false later g = later g

no_name : w.Name ≡ w.BitText → ⊥
no_name e = cc e

no_hash : w.Hash ≡ w.BitText → ⊥
no_hash e = cc e

is_bit_string : (k : Kind) (s : List ℕ) → terminal_of k s ≡ w.BitText → IsTrue (is_bit_text s)
unfolding terminal_of reserved_words symbols constants hashes
is_bit_string kind.Text s e = at_test (is_bit_text s) e
  where
    at_test : (v : Bool) → (if v then w.BitText else w.Text) ≡ w.BitText → v ≡ true
    at_test true g = refl
    at_test false g = cc g
is_bit_string kind.Reserved s e = absurd (not_in reserved_words w.Name s refl no_name e)
is_bit_string kind.Symbol s e = absurd (not_in symbols w.Name s refl no_name e)
is_bit_string kind.Constant s e = absurd (not_in constants w.Name s refl no_name e)
is_bit_string kind.Hash s e = absurd (not_in hashes w.Hash s refl no_hash e)
is_bit_string _ s e = cc e

behind_have : (text : List ℕ) (tokens : List Token) (n : ℕ) → HasBitTexts (stream (terminals_behind text n tokens))
unfolding terminal_at
behind_have text [] n i e = cc e
behind_have text (t ∷ ts) n zero e = is_bit_string t.kind (spelling_of text t) e
behind_have text (t ∷ ts) n (suc i) e = behind_have text ts (behind n (terminal_at text t)) i e

pub texts_have_bit_texts : TextsHaveBitTexts
unfolding terminals
texts_have_bit_texts text tokens = behind_have text tokens 0
