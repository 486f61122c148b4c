-- The last terminal of a text is its end, and no other is.
use Rattle.std.proofs.Common.{◌≡◌, ℕ, Bool, true, false, not, ◌&&◌, eqb, cond, List, [], ◌∷◌, length, refl, ◌∙◌, ap}
use Rattle.std.specs.Str.{bytes_eq}
use Rattle.qt_lex.specs.declared.tokens.Kind.{Kind}
use Rattle.qt_lex.specs.declared.tokens.Kind.TheVariants as kind
use Rattle.qt_lex.specs.declared.tokens.Token.{Token}
use Rattle.qt_lex.specs.Tokens.{EndsAt, GivesTokens}
use Rattle.qt_lex.proofs.Tables.{and_left, and_right}
use Rattle.qt_lex.proofs.Spans.{tokens_end}
use Rattle.qt_terminals.specs.declared.terminal.Terminal.{Terminal}
use Rattle.qt_terminals.specs.declared.terminal.Terminal.TheVariants as w
use Rattle.qt_terminals.specs.Literals.{is_bit_text}
use Rattle.qt_terminals.specs.Alphabet.{code, terminal_in, terminal_of, reserved_words, symbols, constants, hashes}
use Rattle.qt_terminals.specs.Terminals.{EndsOnce, spelling_of, terminal_at, behind, terminals_behind, terminals}

abbrev is_end : Terminal → Bool
is_end terminal = eqb (code terminal) 0

-- no row of a table has the terminal of the end
abbrev have_no_end : List (List ℕ × Terminal) → Bool
have_no_end [] = true
have_no_end (row ∷ rows) = not (is_end row.1) && have_no_end rows

no_end_in : (table : List (List ℕ × Terminal)) (other : Terminal) (s : List ℕ) → have_no_end table ≡ true → is_end other ≡ false → is_end (terminal_in table other s) ≡ false
no_end_in [] other s h e = e
no_end_in ((t, terminal) ∷ rest) other s h e = at_test (no_end_in rest other s (and_right (not (is_end terminal)) (have_no_end rest) h) e) (bytes_eq s t)
  where
    this : is_end terminal ≡ false
    this = let x : not (is_end terminal) ≡ true = and_left (not (is_end terminal)) (have_no_end rest) h in at_terminal (is_end terminal) x
      where
        at_terminal : (v : Bool) → not v ≡ true → v ≡ false
        at_terminal true g = cc g
        at_terminal false g = refl

    at_test : is_end (terminal_in rest other s) ≡ false → (v : Bool) → is_end (cond v terminal (terminal_in rest other s)) ≡ false
    at_test later true = this
    at_test later false = later

no_end : (k : Kind) (s : List ℕ) → (k ≡ kind.End → ⊥) → is_end (terminal_of k s) ≡ false
unfolding terminal_of reserved_words symbols constants hashes
no_end kind.Name s n = refl
no_end kind.Reserved s n = no_end_in reserved_words w.Name s refl refl
no_end kind.Integer s n = refl
no_end kind.Wide s n = refl
no_end kind.Decimal s n = refl
no_end kind.Timing s n = refl
no_end kind.Imaginary s n = refl
no_end kind.Text s n = at_test (is_bit_text s)
  where
    at_test : (v : Bool) → is_end (cond v w.BitText w.Text) ≡ false
    at_test true = refl
    at_test false = refl
no_end kind.Hardware s n = refl
no_end kind.Hash s n = no_end_in hashes w.Hash s refl refl
no_end kind.Symbol s n = no_end_in symbols w.Name s refl refl
no_end kind.Constant s n = no_end_in constants w.Name s refl refl
no_end kind.Euler s n = refl
no_end kind.End s n = absurd (n refl)

the_end : (s : List ℕ) → terminal_of kind.End s ≡ w.End
unfolding terminal_of
the_end s = refl

terminal_no_end : (text : List ℕ) (t : Token) → (t.kind ≡ kind.End → ⊥) → terminal_at text t ≡ w.End → ⊥
unfolding terminal_at
terminal_no_end text t n e =
    let x : is_end (terminal_of t.kind (spelling_of text t)) ≡ false = no_end t.kind (spelling_of text t) n in
    let y : is_end (terminal_of t.kind (spelling_of text t)) ≡ true = ap is_end e in
    cc (x, y)

terminal_is_end : (text : List ℕ) (t : Token) → t.kind ≡ kind.End → terminal_at text t ≡ w.End
unfolding terminal_at
terminal_is_end text t e = ap (λ k. terminal_of k (spelling_of text t)) e ∙ the_end (spelling_of text t)

all_end_once : (text : List ℕ) (n end : ℕ) (ts : List Token) → EndsAt end ts → EndsOnce (terminals_behind text n ts)
all_end_once text n end [] h = absurd h
all_end_once text n end (t ∷ []) h = terminal_is_end text t h.0
all_end_once text n end (t ∷ u ∷ ts) h = (terminal_no_end text t h.0, all_end_once text (behind n (terminal_at text t)) end (u ∷ ts) h.1)

pub ends_once : (text : List ℕ) (file : ℕ) (tokens : List Token) → GivesTokens text file tokens → EndsOnce (terminals text tokens)
unfolding terminals
ends_once text file tokens h = all_end_once text 0 (length text) tokens (tokens_end text file tokens h)
