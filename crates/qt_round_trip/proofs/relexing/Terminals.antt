-- The terminals of the text's tokens are its lexemes, with the bytes of each.
use Rattle.std.proofs.Common.{◌≡◌, ℕ, suc, ◌+◌, ◌-◌, ◌≤◌, true, eqb, List, [], ◌∷◌, length, take, drop, slice_range, drop-cons, refl, sym, ◌∙◌, ap, subst, arith}
use Rattle.std.specs.List.{All}
use Rattle.std.proofs.lemmas.List.Elements.{All-head, All-tail}
use Rattle.qt_lex.specs.declared.tokens.Kind.TheVariants as kind
use Rattle.qt_lex.specs.declared.tokens.Token.{Token}
use Rattle.qt_lex.specs.Bytes.{byte, stands}
use Rattle.qt_lex.proofs.Tables.{and_left, and_right, eqb_same}
use Rattle.qt_terminals.specs.declared.terminal.Terminal.TheVariants as w
use Rattle.qt_terminals.specs.Alphabet.{terminal_of}
use Rattle.qt_terminals.specs.Terminals.{PlacedTerminal, spelling_of, terminal_at, behind, placed_terminal, terminals_behind, terminals, stream}
use Rattle.qt_terminals.proofs.Cuts.{slices}
use Rattle.qt_lexemes.specs.Lexemes.{Lexeme}
use Rattle.qt_print.specs.Text.{lines_text}
use Rattle.qt_round_trip.proofs.lexemes.Spelling.{kind_of, meaning}
use Rattle.qt_round_trip.proofs.lexemes.Written.{Written, lexemes_of}
use Rattle.qt_round_trip.proofs.relexing.Laws.{GiveTheirLexemes, AreTheLexemes}
use Rattle.qt_round_trip.proofs.relexing.Agreeing.{stands_here}
use Rattle.qt_round_trip.proofs.relexing.Lines.{IsLexemeAt, AreLexemesAt, lines_lex}

-- bytes that stand in a text are its slice
slice_there : (text xs : List ℕ) (i : ℕ) → stands (byte text) xs i ≡ true → i + length xs ≤ length text → take (length xs) (drop i text) ≡ xs
slice_there text [] i h le = refl
slice_there text (x ∷ xs) i h le =
    let z : i + 1 ≡ suc i = omega arith in
    let first : byte text i ≡ x = eqb_same (byte text i) x (and_left (eqb (byte text i) x) _ h) in
    let rest : take (length xs) (drop (suc i) text) ≡ xs = subst (λ k. take (length xs) (drop k text) ≡ xs) z (slice_there text xs (i + 1) (and_right (eqb (byte text i) x) _ h) (omega (arith, le))) in
    ap (take (suc (length xs))) (drop-cons text i 0 (omega (arith, le))) ∙ ap (λ t. t ∷ take (length xs) (drop (suc i) text)) first ∙ ap (λ t. x ∷ t) rest

-- the slice of a token that is a lexeme
slice_is : (text : List ℕ) (t : Token) (lexeme : Lexeme) → IsLexemeAt (byte text) (length text) t lexeme → slice_range text t.start t.end ≡ lexeme.text
slice_is text t lexeme h =
    let e : t.end ≡ t.start + length lexeme.text = h.stop in
    let le : t.end ≤ length text = h.within in
    let n : t.end - t.start ≡ length lexeme.text = omega (arith, e) in
    ap (λ k. take k (drop t.start text)) n ∙ slice_there text lexeme.text t.start h.here (omega (arith, e, le))

the_end : (s : List ℕ) → terminal_of kind.End s ≡ w.End
unfolding terminal_of
the_end s = refl

at_end : (text : List ℕ) (t : Token) → t.kind ≡ kind.End → terminal_at text t ≡ w.End
unfolding terminal_at
at_end text t e = ap (λ k. terminal_of k (spelling_of text t)) e ∙ the_end (spelling_of text t)

terminal_is : (text : List ℕ) (t : Token) (lexeme : Lexeme) → t.kind ≡ kind_of lexeme.role → spelling_of text t ≡ lexeme.text → terminal_at text t ≡ meaning lexeme
unfolding terminal_at
terminal_is text t lexeme e f = ap (λ k. terminal_of k (spelling_of text t)) e ∙ ap (terminal_of (kind_of lexeme.role)) f

abbrev AreSlices : List ℕ → List Token → Type 0
AreSlices text tokens = All (λ t. spelling_of text t ≡ slice_range text t.start t.end) tokens

module _ (text : List ℕ) (f : ℕ → PlacedTerminal) where
  -- from place i on the stream is that of these tokens
  abbrev IsFrom : ℕ → ℕ → List Token → Type 0
  IsFrom i n tokens = (k : ℕ) → f (i + k) ≡ stream (terminals_behind text n tokens) k

  written : (lexemes : List Lexeme) (tokens : List Token) → AreLexemesAt (byte text) (length text) lexemes tokens → AreSlices text tokens → (n i : ℕ) → IsFrom i n tokens
      → Written f lexemes i (i + length lexemes) × ((f (i + length lexemes)).terminal ≡ w.End)
  written [] [] are slices n i from = absurd are
  written [] (t ∷ tokens) are slices n i from = (omega arith, ap (λ (x : PlacedTerminal). x.terminal) (from 0) ∙ at_end text t are)
  written (lexeme ∷ lexemes) [] are slices n i from = absurd are
  written (lexeme ∷ lexemes) (t ∷ tokens) are slices n i from =
      let z : i + 0 ≡ i = omega arith in
      let here : f i ≡ placed_terminal text n t = ap f (sym z) ∙ from 0 in
      let spelling : spelling_of text t ≡ lexeme.text = All-head (λ t. spelling_of text t ≡ slice_range text t.start t.end) t tokens slices ∙ slice_is text t lexeme are.0 in
      let r = written lexemes tokens are.1 (All-tail (λ t. spelling_of text t ≡ slice_range text t.start t.end) t tokens slices) (behind n (terminal_at text t)) (i + 1)
      (λ k. let y : (i + 1) + k ≡ i + suc k = omega arith in ap f y ∙ from (suc k)) in
      let q : (i + 1) + length lexemes ≡ i + length (lexeme ∷ lexemes) = omega arith in (
        (
          ap (λ (x : PlacedTerminal). x.terminal) here ∙ terminal_is text t lexeme are.0.kind spelling,
          ap (λ (x : PlacedTerminal). x.spelling) here ∙ spelling,
          subst (λ j. Written f lexemes (i + 1) j) q r.0,
        ),
        subst (λ j. (f j).terminal ≡ w.End) q r.1,
      )

are_the_lexemes : (text : List ℕ) (tokens : List Token) (lexemes : List Lexeme) → AreLexemesAt (byte text) (length text) lexemes tokens → AreSlices text tokens → AreTheLexemes text tokens lexemes
unfolding terminals
are_the_lexemes text tokens lexemes are slices =
    let r = written text (stream (terminals text tokens)) lexemes tokens are slices 0 0 (λ k. let z : 0 + k ≡ k = omega arith in ap (stream (terminals text tokens)) z) in
    let e : 0 + length lexemes ≡ length lexemes = omega arith in
    record { written = subst (λ j. Written (stream (terminals text tokens)) lexemes 0 j) e r.0; end = subst (λ j. (stream (terminals text tokens) j).terminal ≡ w.End) e r.1 }

pub give_their_lexemes : GiveTheirLexemes
give_their_lexemes lines h file =
    let text = lines_text 0 lines in
    let here : stands (byte text) text 0 ≡ true = stands_here (byte text) text 0 (λ k lt. let z : 0 + k ≡ k = omega arith in ap (byte text) z) in
    let r = lines_lex (byte text) file (length text) lines h 0 here (omega arith) in
    (r.0, r.1, are_the_lexemes text r.0 (lexemes_of lines) r.2 (slices text file r.0 r.1))
