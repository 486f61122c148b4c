-- The spellings of a text's tokens have no more bytes together than the text.
use Rattle.std.proofs.Common.{◌≡◌, ℕ, zero, suc, ◌+◌, ◌-◌, ◌≤◌, ◌<◌, Bool, true, false, ◌&&◌, leb, cond, inl, inr, List, [], ◌∷◌, length, drop, refl, arith}
use Rattle.std.specs.List.{slice_range}
use Rattle.std.proofs.Math.ListN.{length-take}
use Rattle.qt_lex.specs.declared.tokens.Kind.TheVariants.{End}
use Rattle.qt_lex.specs.declared.tokens.Token.{Token}
use Rattle.qt_lex.specs.Bytes.{byte}
use Rattle.qt_lex.specs.Tokens.{IsGap, Lexes, stop, gap, token, token_of, GivesTokens}
use Rattle.qt_lex.proofs.Spans.{gap_within, token_within, token_some, nothing_behind}
use Rattle.qt_terminals.specs.Literals.{is_boundary, cut}
use Rattle.qt_terminals.specs.Terminals.{PlacedTerminal, spelling_of, terminal_at, behind, terminals_behind, terminals, stream}
use Rattle.qt_round_trip.proofs.literals.Kept.{total_length}

length_slice : (text : List ℕ) (i j : ℕ) → length (slice_range text i j) ≤ j - i
length_slice text i j = omega (arith, length-take (j - i) (drop i text))

length_cut : (text : List ℕ) (i j : ℕ) → length (cut text i j) ≤ j - i
unfolding cut
length_cut text i j = at_test (leb i j && (is_boundary text i && is_boundary text j))
  where
    at_test : (v : Bool) → length (cond v (slice_range text i j) []) ≤ j - i
    at_test true = length_slice text i j
    at_test false = omega arith

length_spelling : (text : List ℕ) (t : Token) → length (spelling_of text t) ≤ t.end - t.start
unfolding spelling_of
length_spelling text t = length_cut text t.start t.end

total_more : (ts : ℕ → PlacedTerminal) (n : ℕ) → total_length ts (suc n) ≡ length ((ts 0).spelling) + total_length (λ k. ts (suc k)) n
total_more ts zero = omega arith
total_more ts (suc n) = omega (arith, total_more ts n)

total_none : (n : ℕ) → total_length (stream []) n ≡ 0
total_none zero = refl
total_none (suc n) = omega (arith, total_none n)

gap_ahead : (b : ℕ → ℕ) (end i j : ℕ) → IsGap b end i j → i ≤ j
gap_ahead b end i j (inl h) = omega (arith, h.1)
gap_ahead b end i j (inr (inl h)) = omega (arith, h.1.ahead)
gap_ahead b end i j (inr (inr (h, (m, f, e)))) = omega (arith, f.ahead, e)

total_behind : (text : List ℕ) (file i : ℕ) (ts : List Token) → i ≤ length text → Lexes (byte text) file (length text) i ts
    → (m n : ℕ) → i + total_length (stream (terminals_behind text m ts)) n ≤ length text
total_behind text file i ts le (stop ge) m zero = omega arith
total_behind text file i ts le (stop ge) m (suc n) =
    omega (arith, total_more (stream (terminals_behind text m (token_of (byte text) file End i i ∷ []))) n, total_none n, length_spelling text (token_of (byte text) file End i i))
total_behind text file i ts le (gap j lt g h) m n =
    let x : i ≤ j = gap_ahead (byte text) (length text) i j g in
    let y : j + total_length (stream (terminals_behind text m ts)) n ≤ length text = total_behind text file j ts (gap_within (byte text) (length text) i j (nothing_behind text) lt g) h m n in
    omega arith
total_behind text file i ts le (token k j lt s l h) m zero = omega arith
total_behind text file i ts le (token {rest = rest} k j lt s l h) m (suc n) =
    let t = token_of (byte text) file k i j in
    let x : i < j = token_some (byte text) k i j l.token in
    let y : j ≤ length text = token_within (byte text) k (length text) i j (nothing_behind text) lt l.token in
    let z : j + total_length (stream (terminals_behind text (behind m (terminal_at text t)) rest)) n ≤ length text = total_behind text file j rest y h (behind m (terminal_at text t)) n in
    omega (arith, total_more (stream (terminals_behind text m (t ∷ rest))) n, length_spelling text t)

pub within_the_text : (text : List ℕ) (file : ℕ) (tokens : List Token) → GivesTokens text file tokens
    → (n : ℕ) → total_length (stream (terminals text tokens)) n ≤ length text
unfolding terminals
within_the_text text file tokens h n = omega (arith, total_behind text file 0 tokens (omega arith) h 0 n)
