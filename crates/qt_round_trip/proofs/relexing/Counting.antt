-- The tokens of a text count its operators.
use Rattle.std.proofs.Common.{◌≡◌, ℕ, zero, suc, ◌+◌, List, [], ◌∷◌, refl, arith}
use Rattle.qt_lex.specs.declared.tokens.Token.{Token}
use Rattle.qt_terminals.specs.Terminals.{terminal_at, behind, terminals_behind, terminals, stream, EndsOnce}
use Rattle.qt_terminals.proofs.Ends.{ends_once}
use Rattle.qt_round_trip.proofs.lexemes.Written.{Counts}
use Rattle.qt_round_trip.proofs.relexing.Laws.{CountOperators}

counts_behind : (text : List ℕ) (n : ℕ) (tokens : List Token) → EndsOnce (terminals_behind text n tokens) → Counts (stream (terminals_behind text n tokens))
counts_behind text n [] h i other = absurd h
counts_behind text n (t ∷ []) h zero other = absurd (other h)
counts_behind text n (t ∷ []) h (suc i) other = absurd (other refl)
counts_behind text n (t ∷ u ∷ tokens) h zero other = refl
counts_behind text n (t ∷ u ∷ tokens) h (suc i) other =
    let z : suc i + 1 ≡ suc (i + 1) = omega arith in
    rw z (counts_behind text (behind n (terminal_at text t)) (u ∷ tokens) h.1 i other)

first_none : (text : List ℕ) (tokens : List Token) → (stream (terminals_behind text 0 tokens) 0).operators ≡ 0
first_none text [] = refl
first_none text (t ∷ tokens) = refl

pub count_operators : CountOperators
unfolding terminals
count_operators text file tokens h = (counts_behind text 0 tokens (ends_once text file tokens h), first_none text tokens)
