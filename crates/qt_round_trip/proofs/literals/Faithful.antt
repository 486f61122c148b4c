-- What printing keeps of each token of a text.
use Rattle.std.proofs.Common.{◌≡◌, ℕ, zero, suc, ◌+◌, ◌-◌, ◌≤◌, ◌<◌, inl, inr, List, ◌∷◌, length, drop, Some, refl, sym, ◌∙◌, ap, subst, arith}
use Rattle.std.specs.List.{slice_range}
use Rattle.std.proofs.lemmas.List.{get_or-take, get_or-drop}
use Rattle.std.proofs.Math.ListN.{length-take, length-drop}
use Rattle.qt_lex.specs.declared.tokens.Kind.{Kind}
use Rattle.qt_lex.specs.declared.tokens.Kind.TheVariants as kind
use Rattle.qt_lex.specs.declared.tokens.Token.{Token}
use Rattle.qt_lex.specs.Bytes.{byte}
use Rattle.qt_lex.specs.Tokens.{IsToken, Lexes, stop, gap, token, token_of, GivesTokens}
use Rattle.qt_lex.proofs.Spans.{gap_within, token_within, token_some, nothing_behind}
use Rattle.qt_terminals.specs.declared.terminal.Terminal.TheVariants as w
use Rattle.qt_terminals.specs.Alphabet.{terminal_of}
use Rattle.qt_terminals.specs.Terminals.{PlacedTerminal, spelling_of, terminal_at, placed_terminal, behind, terminals_behind, terminals, stream, past_the_end}
use Rattle.qt_terminals.proofs.Cuts.{spelling_is}
use Rattle.qt_round_trip.proofs.literals.Kept.{IsFaithful}
use Rattle.qt_round_trip.proofs.literals.Shifts.{name_moved, decimal_moved, quoted_moved}
use Rattle.qt_round_trip.proofs.literals.Quotes.{quoted_again}
use Rattle.qt_round_trip.proofs.literals.Bits.{bits_again}
use Rattle.qt_round_trip.proofs.literals.Terminals.{kind_by, kind_told}

-- the end of a text
end_faithful : (t : PlacedTerminal) → t.terminal ≡ w.End → IsFaithful t
end_faithful t e = record {
  some = λ n. absurd (n e);
  name = λ h. absurd (cc (e, h));
  decimal = λ h. absurd (cc (e, h));
  bits = λ h. absurd (cc (e, h));
  quotation = λ h. absurd (elim h [ inl g ↦ cc (e, g) | inr g ↦ cc (e, g) ]);
}

-- a token, by its kind in the text, its terminal and its bytes
module _ (b : ℕ → ℕ) (i : ℕ) (t : PlacedTerminal) (same : (k : ℕ) → k < length t.spelling → byte t.spelling k ≡ b (i + k)) where
  token_faithful : (k : Kind) → IsToken b k i (i + length t.spelling) → t.terminal ≡ terminal_of k t.spelling → IsFaithful t
  token_faithful k h e = record {
    some = λ n. omega (arith, token_some b k i (i + length t.spelling) h);
    name = λ g. name_moved b (byte t.spelling) i (length t.spelling) same (told kind.Name (ap kind_by (sym e ∙ g)));
    decimal = λ g. decimal_moved b (byte t.spelling) i (length t.spelling) same (told kind.Decimal (ap kind_by (sym e ∙ g)));
    bits = λ g. bits_again t (text (told kind.Text (ap kind_by (sym e ∙ g))));
    quotation = λ g. quoted_again t (text (told kind.Text (elim g [ inl x ↦ ap kind_by (sym e ∙ x) | inr x ↦ ap kind_by (sym e ∙ x) ])));
  }
    where
      told : (q : Kind) → kind_by (terminal_of k t.spelling) ≡ Some q → IsToken b q i (i + length t.spelling)
      told q f = subst (λ k. IsToken b k i (i + length t.spelling)) (kind_told b i t.spelling same k q h f) h

      text : IsToken b kind.Text i (i + length t.spelling) → IsToken (byte t.spelling) kind.Text 0 (length t.spelling)
      text = quoted_moved b (byte t.spelling) i (length t.spelling) same

slice_faithful : (text : List ℕ) (i j : ℕ) (k : Kind) (t : PlacedTerminal) → i ≤ j → j ≤ length text → IsToken (byte text) k i j
    → t.spelling ≡ slice_range text i j → t.terminal ≡ terminal_of k t.spelling → IsFaithful t
slice_faithful text i j k t le within h e f =
    let size : length t.spelling ≡ j - i = ap length e ∙ omega (arith, length-take (j - i) (drop i text), length-drop i text) in
    let at : j ≡ i + length t.spelling = omega arith in
    let same : (n : ℕ) → n < length t.spelling → byte t.spelling n ≡ byte text (i + n) = λ n lt.
    ap (λ s. byte s n) e ∙ get_or-take (j - i) (drop i text) n 0 (omega arith) ∙ get_or-drop i text n 0 in
    token_faithful (byte text) i t same k (subst (IsToken (byte text) k i) at h) f

terminal_is : (text : List ℕ) (t : Token) → terminal_at text t ≡ terminal_of t.kind (spelling_of text t)
unfolding terminal_at
terminal_is text t = refl

end_lexeme : (s : List ℕ) → terminal_of kind.End s ≡ w.End
unfolding terminal_of
end_lexeme s = refl

all_faithful : (text : List ℕ) (file i : ℕ) (ts : List Token) → i ≤ length text → Lexes (byte text) file (length text) i ts
    → (m n : ℕ) → IsFaithful (stream (terminals_behind text m ts) n)
all_faithful text file i ts le (stop ge) m zero =
    let t = token_of (byte text) file kind.End i i in
    end_faithful (placed_terminal text m t) (terminal_is text t ∙ end_lexeme (spelling_of text t))
all_faithful text file i ts le (stop ge) m (suc n) = end_faithful past_the_end refl
all_faithful text file i ts le (gap j lt g h) m n = all_faithful text file j ts (gap_within (byte text) (length text) i j (nothing_behind text) lt g) h m n
all_faithful text file i ts le (token {rest = rest} k j lt s l h) m zero =
    let t = token_of (byte text) file k i j in
    let x : i < j = token_some (byte text) k i j l.token in
    let y : j ≤ length text = token_within (byte text) k (length text) i j (nothing_behind text) lt l.token in
    slice_faithful text i j k (placed_terminal text m t) (omega arith) y l.token
    (spelling_is text file i j k (t ∷ rest) rest (omega arith) y (token k j lt s l h) h)
    (terminal_is text t)
all_faithful text file i ts le (token {rest = rest} k j lt s l h) m (suc n) =
    let t = token_of (byte text) file k i j in
    let y : j ≤ length text = token_within (byte text) k (length text) i j (nothing_behind text) lt l.token in
    all_faithful text file j rest y h (behind m (terminal_at text t)) n

pub all_tokens_faithful : (text : List ℕ) (file : ℕ) (tokens : List Token) → GivesTokens text file tokens → (n : ℕ) → IsFaithful (stream (terminals text tokens) n)
unfolding terminals
all_tokens_faithful text file tokens h n = all_faithful text file 0 tokens (omega arith) h 0 n
