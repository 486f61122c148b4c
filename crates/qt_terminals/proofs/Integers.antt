-- The whole numbers of a text are below 2^64.
use Rattle.std.proofs.Common.{◌≡◌, ℕ, zero, suc, ◌+◌, ◌-◌, ◌*◌, ◌^◌, ◌≤◌, ◌<◌, inl, inr, true, false, eqb, cond, List, [], length, drop, Option, Some, None, refl, sym, ◌∙◌, ap, subst, arith}
use Rattle.std.specs.List.{All, slice_range}
use Rattle.std.proofs.lemmas.List.Elements.{All-nil, All-cons}
use Rattle.std.proofs.Math.ListN.{length-take, length-drop}
use Rattle.std.proofs.lemmas.List.{get_or-take, get_or-drop, get_or_past}
use Rattle.qt_lex.specs.declared.number.Radix.{Radix}
use Rattle.qt_lex.specs.declared.number.Radix.TheVariants as radix
use Rattle.qt_lex.specs.declared.tokens.Kind.{Kind}
use Rattle.qt_lex.specs.declared.tokens.Kind.TheVariants.{Integer, End}
use Rattle.qt_lex.specs.declared.tokens.Token.{Token}
use Rattle.qt_lex.specs.Bytes.{byte}
use Rattle.qt_lex.specs.Numbers.{base_of, digit_value, number_of, IsDigits, IsWhole}
use Rattle.qt_lex.specs.Answers.{prefix_of}
use Rattle.qt_lex.specs.Tokens.{IsToken, Lexes, stop, gap, token, token_of, GivesTokens}
use Rattle.qt_lex.proofs.Tables.{compare2, not_true}
use Rattle.qt_lex.proofs.Numbers.{is_mark, prefix_inverse, Prefixed, prefix_is, mark_stops}
use Rattle.qt_lex.proofs.Spans.{gap_within, token_within, token_some, nothing_behind}
use Rattle.qt_terminals.specs.Literals.{integer_of, integer_in}
use Rattle.qt_terminals.specs.Terminals.{spelling_of}
use Rattle.qt_terminals.proofs.Cuts.{spelling_is}

no_mark : (c d : ℕ) → is_mark d ≡ false → prefix_of c d ≡ None
no_mark c d h = go (prefix_of c d) refl
  where
    marked : (x : ℕ) → is_mark x ≡ true → d ≡ x → ⊥
    marked x m e = let n : is_mark d ≡ true = ap is_mark e ∙ m in cc (h, n)

    go : (o : Option Radix) → prefix_of c d ≡ o → o ≡ None
    go None e = refl
    go (Some r) e = absurd (elim (prefix_inverse c d r e).1 [
      | inl t ↦ elim t.1 [ inl x ↦ marked 120 refl x | inr x ↦ marked 88 refl x ]
      | inr u ↦ elim u [
        | inl t ↦ elim t.1 [ inl x ↦ marked 98 refl x | inr x ↦ marked 66 refl x ]
        | inr t ↦ marked 111 refl t.1
      ]
    ])

module _ (text : List ℕ) (i j : ℕ) (le : i ≤ j) (within : j ≤ length text) where
  length_slice : length (slice_range text i j) ≡ j - i
  length_slice = omega (arith, length-take (j - i) (drop i text), length-drop i text)

  byte_slice : (k : ℕ) → k < j - i → byte (slice_range text i j) k ≡ byte text (i + k)
  byte_slice k lt = get_or-take (j - i) (drop i text) k 0 lt ∙ get_or-drop i text k 0

  number_slice : (base n k : ℕ) → n + k ≤ j - i → number_of (byte (slice_range text i j)) base n k ≡ number_of (byte text) base (i + n) k
  number_slice base n zero h = refl
  number_slice base n (suc k) h =
      let e : byte (slice_range text i j) (n + k) ≡ byte text (i + n + k) = byte_slice (n + k) (omega arith) ∙ ap (byte text) (omega arith) in
      let f : number_of (byte (slice_range text i j)) base n k ≡ number_of (byte text) base (i + n) k = number_slice base n k (omega arith) in
      ap (λ t. cond (eqb t 95) (number_of (byte (slice_range text i j)) base n k) (number_of (byte (slice_range text i j)) base n k * base + digit_value t)) e
      ∙ ap (λ t. cond (eqb (byte text (i + n + k)) 95) t (t * base + digit_value (byte text (i + n + k)))) f

  -- with a prefix
  prefixed : (r : Radix) (s : ℕ) → IsWhole (byte text) r s i j → Prefixed (byte text) r i s → integer_of (slice_range text i j) ≡ number_of (byte text) (base_of r) s (j - s)
  unfolding integer_of
  prefixed r s w p =
      let lt : s < j = w.digits.some in
      let at : s ≡ i + 2 = p.start in
      let zero_there : byte (slice_range text i j) 0 ≡ byte text i = byte_slice 0 (omega (arith, lt, at)) ∙ ap (byte text) (omega arith) in
      let one_there : byte (slice_range text i j) 1 ≡ byte text (i + 1) = byte_slice 1 (omega (arith, lt, at)) in
      let says : prefix_of (byte (slice_range text i j) 0) (byte (slice_range text i j) 1) ≡ Some r =
      ap (λ t. prefix_of t (byte (slice_range text i j) 1)) zero_there ∙ ap (prefix_of (byte text i)) one_there ∙ p.says in
      let size : length (slice_range text i j) - 2 ≡ j - s = omega (arith, length_slice, at) in
      ap (λ t. integer_in t (slice_range text i j)) says
      ∙ ap (number_of (byte (slice_range text i j)) (base_of r) 2) size
      ∙ number_slice (base_of r) 2 (j - s) (omega (arith, lt, at))
      ∙ ap (λ t. number_of (byte text) (base_of r) t (j - s)) (sym at)

  second : IsDigits (byte text) radix.Decimal i j → is_mark (byte (slice_range text i j) 1) ≡ false
  second d = elim (compare2 (j - i) 1) [
    | inl short ↦ ap is_mark (get_or_past (slice_range text i j) 1 0 (omega (arith, length_slice, short)))
    | inr more ↦ ap is_mark (byte_slice 1 more) ∙ not_true (is_mark (byte text (i + 1))) (λ m. mark_stops (byte text) (i + 1) m (d.each (i + 1) (omega arith) (omega (arith, more))))
  ]

  plain : IsDigits (byte text) radix.Decimal i j → integer_of (slice_range text i j) ≡ number_of (byte text) 10 i (j - i)
  unfolding integer_of
  plain d =
      let says : prefix_of (byte (slice_range text i j) 0) (byte (slice_range text i j) 1) ≡ None = no_mark (byte (slice_range text i j) 0) (byte (slice_range text i j) 1) (second d) in
      let size : length (slice_range text i j) - 0 ≡ j - i = omega (arith, length_slice) in
      ap (λ t. integer_in t (slice_range text i j)) says
      ∙ ap (number_of (byte (slice_range text i j)) 10 0) size
      ∙ number_slice 10 0 (j - i) (omega arith)
      ∙ ap (λ t. number_of (byte text) 10 t (j - i)) (omega arith)

  pub integer_slice : (r : Radix) (s : ℕ) → IsWhole (byte text) r s i j → integer_of (slice_range text i j) ≡ number_of (byte text) (base_of r) s (j - s)
  integer_slice r s w = elim (prefix_is (byte text) r i s w.prefix) [
    | inl p ↦
        let d : IsDigits (byte text) radix.Decimal i j = subst (λ t. IsDigits (byte text) radix.Decimal t j) p.1 (subst (λ t. IsDigits (byte text) t s j) p.0 w.digits) in
        plain d ∙ ap (λ t. number_of (byte text) 10 t (j - t)) (sym p.1) ∙ ap (λ t. number_of (byte text) (base_of t) s (j - s)) (sym p.0)
    | inr p ↦ prefixed r s w p
  ]

-- the number of a token that is a whole number is below 2^64
abbrev Fits : List ℕ → Token → Type 0
Fits text t = t.kind ≡ Integer → integer_of (spelling_of text t) < 2 ^ 64

fits : (text : List ℕ) (file i j : ℕ) (k : Kind) (ts us : List Token) → i ≤ j → j ≤ length text → IsToken (byte text) k i j
    → Lexes (byte text) file (length text) i ts → Lexes (byte text) file (length text) j us → Fits text (token_of (byte text) file k i j)
fits text file i j k ts us le within t h g = λ e.
    let whole : IsToken (byte text) Integer i j = subst (λ q. IsToken (byte text) q i j) e t in
    let value : integer_of (spelling_of text (token_of (byte text) file k i j)) ≡ number_of (byte text) (base_of whole.0) whole.1 (j - whole.1) =
    ap integer_of (spelling_is text file i j k ts us le within h g) ∙ integer_slice text i j le within whole.0 whole.1 whole.2 in
    let small : number_of (byte text) (base_of whole.0) whole.1 (j - whole.1) < 2 ^ 64 = whole.3 in
    omega (arith, value, small)

all_fit : (text : List ℕ) (file i : ℕ) (ts : List Token) → i ≤ length text → Lexes (byte text) file (length text) i ts → All (Fits text) ts
all_fit text file i ts le (stop ge) = All-cons (Fits text) (token_of (byte text) file End i i) [] (λ e. absurd (cc e)) (All-nil (Fits text))
all_fit text file i ts le (gap j lt g h) = all_fit text file j ts (gap_within (byte text) (length text) i j (nothing_behind text) lt g) h
all_fit text file i ts le (token {rest = rest} k j lt s l h) =
    let x : i < j = token_some (byte text) k i j l.token in
    let y : j ≤ length text = token_within (byte text) k (length text) i j (nothing_behind text) lt l.token in
    All-cons (Fits text) (token_of (byte text) file k i j) rest (fits text file i j k ts rest (omega (arith, x)) y l.token (token k j lt s l h) h) (all_fit text file j rest y h)

pub integers_small : (text : List ℕ) (file : ℕ) (tokens : List Token) → GivesTokens text file tokens → All (λ t. t.kind ≡ Integer → integer_of (spelling_of text t) < 2 ^ 64) tokens
integers_small text file tokens h = all_fit text file 0 tokens (omega arith) h
