-- A text gives one list of tokens, or has one place to blame.
use Rattle.std.proofs.Common.{◌≡◌, ℕ, ◌+◌, ◌≤◌, ◌<◌, inl, inr, true, false, ◌&&◌, eqb, List, [], ◌∷◌, refl, sym, ◌∙◌, ap, subst, arith}
use Rattle.qt_lex.specs.declared.tokens.Kind.{Kind}
use Rattle.qt_lex.specs.declared.tokens.Token.{Token}
use Rattle.qt_lex.specs.Bytes.{is_blank, stands}
use Rattle.qt_lex.specs.Tokens.{IsToken, LongestToken, FirstAt, IsLineEnd, IsGap, IsSolid, IsUnclosed, Lexes, stop, gap, token, Fails, open_comment, no_token, behind_gap, behind_token, token_of}
use Rattle.qt_lex.proofs.Tables.{and_left, and_right, eqb_same, compare}
use Rattle.qt_lex.proofs.Single.{kind_one}

module _ (b : ℕ → ℕ) where
  -- two places are the same where neither is before the other
  same : (m n : ℕ) → (m < n → ⊥) → (n < m → ⊥) → m ≡ n
  same m n f g = elim (compare m n) [ inl lt ↦ absurd (f lt) | inr t ↦ elim t [ inl e ↦ e | inr lt ↦ absurd (g lt) ] ]

  -- the first byte of a comment is no blank, and the second tells the two apart
  blank_no_comment : (i : ℕ) (xs : List ℕ) → is_blank (b i) ≡ true → stands b (47 ∷ xs) i ≡ true → ⊥
  blank_no_comment i xs h g =
      let e : b i ≡ 47 = eqb_same (b i) 47 (and_left (eqb (b i) 47) (stands b xs (i + 1)) g) in
      let w : is_blank 47 ≡ true = subst (λ t. is_blank t ≡ true) e h in cc w

  two_comments : (i : ℕ) → stands b (47 ∷ 47 ∷ []) i ≡ true → stands b (47 ∷ 42 ∷ []) i ≡ true → ⊥
  two_comments i h g =
      let e : b (i + 1) ≡ 47 = eqb_same _ _ (and_left (eqb (b (i + 1)) 47) true (and_right (eqb (b i) 47) (eqb (b (i + 1)) 47 && true) h)) in
      let f : b (i + 1) ≡ 42 = eqb_same _ _ (and_left (eqb (b (i + 1)) 42) true (and_right (eqb (b i) 47) (eqb (b (i + 1)) 42 && true) g)) in
      omega (arith, e, f)

  line_one : (end i j k : ℕ) → b end ≡ 0 → IsLineEnd b end i j → IsLineEnd b end i k → j < k → ⊥
  line_one end i j k z h g lt = elim h.stop [
    | inl e ↦ (let f : eqb (b j) 10 ≡ false = g.none j h.ahead lt in let u : eqb (b j) 10 ≡ true = ap (λ t. eqb t 10) e in cc (u, f))
    | inr e ↦ (let w : k ≤ end = g.within in omega (arith, e, lt, w))
  ]

  first_one : (xs : List ℕ) (i j k : ℕ) → FirstAt b xs i j → FirstAt b xs i k → j < k → ⊥
  first_one xs i j k h g lt = let f : stands b xs j ≡ false = g.none j h.ahead lt in let u : stands b xs j ≡ true = h.here in cc (u, f)

  gap_one : (end i j k : ℕ) → b end ≡ 0 → IsGap b end i j → IsGap b end i k → j ≡ k
  gap_one end i j k z (inl h) (inl g) = h.1 ∙ sym g.1
  gap_one end i j k z (inl h) (inr (inl g)) = absurd (blank_no_comment i (47 ∷ []) h.0 g.0)
  gap_one end i j k z (inl h) (inr (inr g)) = absurd (blank_no_comment i (42 ∷ []) h.0 g.0)
  gap_one end i j k z (inr (inl h)) (inl g) = absurd (blank_no_comment i (47 ∷ []) g.0 h.0)
  gap_one end i j k z (inr (inl h)) (inr (inl g)) = same j k (line_one end (i + 2) j k z h.1 g.1) (line_one end (i + 2) k j z g.1 h.1)
  gap_one end i j k z (inr (inl h)) (inr (inr g)) = absurd (two_comments i h.0 g.0)
  gap_one end i j k z (inr (inr h)) (inl g) = absurd (blank_no_comment i (42 ∷ []) g.0 h.0)
  gap_one end i j k z (inr (inr h)) (inr (inl g)) = absurd (two_comments i g.0 h.0)
  gap_one end i j k z (inr (inr (h, (m, f, e)))) (inr (inr (g, (n, f', e')))) =
      let s : m ≡ n = same m n (first_one (42 ∷ 47 ∷ []) (i + 2) m n f f') (first_one (42 ∷ 47 ∷ []) (i + 2) n m f' f) in
      e ∙ ap (λ t. t + 2) s ∙ sym e'

  gap_no_solid : (end i j : ℕ) → IsGap b end i j → IsSolid b i → ⊥
  gap_no_solid end i j (inl h) x = let u : is_blank (b i) ≡ false = x.no_blank in let v : is_blank (b i) ≡ true = h.0 in cc (u, v)
  gap_no_solid end i j (inr (inl h)) x = let u : stands b (47 ∷ 47 ∷ []) i ≡ false = x.no_line in let v : stands b (47 ∷ 47 ∷ []) i ≡ true = h.0 in cc (u, v)
  gap_no_solid end i j (inr (inr h)) x = let u : stands b (47 ∷ 42 ∷ []) i ≡ false = x.no_comment in let v : stands b (47 ∷ 42 ∷ []) i ≡ true = h.0 in cc (u, v)

  gap_no_open : (end i j : ℕ) → IsGap b end i j → IsUnclosed b i → ⊥
  gap_no_open end i j (inl h) x = blank_no_comment i (42 ∷ []) h.0 x.opening
  gap_no_open end i j (inr (inl h)) x = two_comments i h.0 x.opening
  gap_no_open end i j (inr (inr (h, (m, f, e)))) x =
      let u : stands b (42 ∷ 47 ∷ []) m ≡ false = x.never m f.ahead in let v : stands b (42 ∷ 47 ∷ []) m ≡ true = f.here in cc (u, v)

  solid_no_open : (i : ℕ) → IsSolid b i → IsUnclosed b i → ⊥
  solid_no_open i x y = let u : stands b (47 ∷ 42 ∷ []) i ≡ false = x.no_comment in let v : stands b (47 ∷ 42 ∷ []) i ≡ true = y.opening in cc (u, v)

  longest_one : (i j k : ℕ) (p q : Kind) → LongestToken b p i j → LongestToken b q i k → j ≡ k
  longest_one i j k p q h g = let x : k ≤ j = h.longest q k g.token in let y : j ≤ k = g.longest p j h.token in omega (arith, x, y)

  pub tokens_one : (file end : ℕ) → b end ≡ 0 → (i : ℕ) (ps qs : List Token) → Lexes b file end i ps → Lexes b file end i qs → ps ≡ qs
  tokens_one file end z i ps qs (stop le) (stop le') = refl
  tokens_one file end z i ps qs (stop le) (gap j lt g h) = absurd (omega (arith, le, lt))
  tokens_one file end z i ps qs (stop le) (token k j lt s l h) = absurd (omega (arith, le, lt))
  tokens_one file end z i ps qs (gap j lt g h) (stop le) = absurd (omega (arith, le, lt))
  tokens_one file end z i ps qs (gap j lt g h) (gap j' lt' g' h') = tokens_one file end z j ps qs h (subst (λ t. Lexes b file end t qs) (sym (gap_one end i j j' z g g')) h')
  tokens_one file end z i ps qs (gap j lt g h) (token k j' lt' s l h') = absurd (gap_no_solid end i j g s)
  tokens_one file end z i ps qs (token k j lt s l h) (stop le) = absurd (omega (arith, le, lt))
  tokens_one file end z i ps qs (token k j lt s l h) (gap j' lt' g' h') = absurd (gap_no_solid end i j' g' s)
  tokens_one file end z i ps qs (token {rest = rest} k j lt s l h) (token {rest = rest'} k' j' lt' s' l' h') =
      let e : j ≡ j' = longest_one i j j' k k' l l' in
      let same_end : IsToken b k' i j = subst (λ t. IsToken b k' i t) (sym e) l'.token in
      let ek : k ≡ k' = kind_one b i j k k' l.token same_end in
      let et : rest ≡ rest' = tokens_one file end z j rest rest' h (subst (λ t. Lexes b file end t rest') (sym e) h') in
      ap (λ t. token_of b file t i j ∷ rest) ek ∙ ap (λ t. token_of b file k' i t ∷ rest) e ∙ ap (λ t. token_of b file k' i j' ∷ t) et

  pub tokens_or_fault : (file end : ℕ) → b end ≡ 0 → (i : ℕ) (ps : List Token) (p : ℕ) → Lexes b file end i ps → Fails b end i p → ⊥
  tokens_or_fault file end z i ps p (stop le) (open_comment lt o) = omega (arith, le, lt)
  tokens_or_fault file end z i ps p (stop le) (no_token lt s n) = omega (arith, le, lt)
  tokens_or_fault file end z i ps p (stop le) (behind_gap j lt g f) = omega (arith, le, lt)
  tokens_or_fault file end z i ps p (stop le) (behind_token k j lt s l f) = omega (arith, le, lt)
  tokens_or_fault file end z i ps p (gap j lt g h) (open_comment lt' o) = gap_no_open end i j g o
  tokens_or_fault file end z i ps p (gap j lt g h) (no_token lt' s n) = gap_no_solid end i j g s
  tokens_or_fault file end z i ps p (gap j lt g h) (behind_gap j' lt' g' f) = tokens_or_fault file end z j ps p h (subst (λ t. Fails b end t p) (sym (gap_one end i j j' z g g')) f)
  tokens_or_fault file end z i ps p (gap j lt g h) (behind_token k j' lt' s l f) = gap_no_solid end i j g s
  tokens_or_fault file end z i ps p (token k j lt s l h) (open_comment lt' o) = solid_no_open i s o
  tokens_or_fault file end z i ps p (token k j lt s l h) (no_token lt' s' n) = n k j l.token
  tokens_or_fault file end z i ps p (token k j lt s l h) (behind_gap j' lt' g f) = gap_no_solid end i j' g s
  tokens_or_fault file end z i ps p (token {rest = rest} k j lt s l h) (behind_token k' j' lt' s' l' f) =
      tokens_or_fault file end z j rest p h (subst (λ t. Fails b end t p) (sym (longest_one i j j' k k' l l')) f)

  pub fault_one : (end : ℕ) → b end ≡ 0 → (i p q : ℕ) → Fails b end i p → Fails b end i q → p ≡ q
  fault_one end z i p q (open_comment lt o) (open_comment lt' o') = refl
  fault_one end z i p q (open_comment lt o) (no_token lt' s n) = refl
  fault_one end z i p q (open_comment lt o) (behind_gap j lt' g f) = absurd (gap_no_open end i j g o)
  fault_one end z i p q (open_comment lt o) (behind_token k j lt' s l f) = absurd (solid_no_open i s o)
  fault_one end z i p q (no_token lt s n) (open_comment lt' o') = refl
  fault_one end z i p q (no_token lt s n) (no_token lt' s' n') = refl
  fault_one end z i p q (no_token lt s n) (behind_gap j lt' g f) = absurd (gap_no_solid end i j g s)
  fault_one end z i p q (no_token lt s n) (behind_token k j lt' s' l f) = absurd (n k j l.token)
  fault_one end z i p q (behind_gap j lt g f) (open_comment lt' o) = absurd (gap_no_open end i j g o)
  fault_one end z i p q (behind_gap j lt g f) (no_token lt' s n) = absurd (gap_no_solid end i j g s)
  fault_one end z i p q (behind_gap j lt g f) (behind_gap j' lt' g' f') = fault_one end z j p q f (subst (λ t. Fails b end t q) (sym (gap_one end i j j' z g g')) f')
  fault_one end z i p q (behind_gap j lt g f) (behind_token k j' lt' s l f') = absurd (gap_no_solid end i j g s)
  fault_one end z i p q (behind_token k j lt s l f) (open_comment lt' o) = absurd (solid_no_open i s o)
  fault_one end z i p q (behind_token k j lt s l f) (no_token lt' s' n) = absurd (n k j l.token)
  fault_one end z i p q (behind_token k j lt s l f) (behind_gap j' lt' g f') = absurd (gap_no_solid end i j' g s)
  fault_one end z i p q (behind_token k j lt s l f) (behind_token k' j' lt' s' l' f') =
      fault_one end z j p q f (subst (λ t. Fails b end t q) (sym (longest_one i j j' k k' l l')) f')
