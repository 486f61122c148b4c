-- The spans of a text's tokens lie within the text, and the last token is its end.
use Rattle.std.proofs.Common.{◌≡◌, ℕ, ◌+◌, ◌-◌, ◌≤◌, ◌<◌, inl, inr, Bool, true, false, not, ◌&&◌, eqb, List, [], ◌∷◌, length, refl, sym, ◌∙◌, ap, subst, arith}
use Rattle.std.proofs.lemmas.List.{get_or_past}
use Rattle.qt_lex.specs.declared.tokens.Kind.{Kind}
use Rattle.qt_lex.specs.declared.tokens.Kind.TheVariants.{Name, Reserved, Integer, Wide, Decimal, Timing, Imaginary, Text, Hardware, Hash, Symbol, Constant, Euler, End}
use Rattle.qt_lex.specs.declared.tokens.Token.{Token}
use Rattle.qt_lex.specs.Bytes.{byte, is_digit, is_letter, is_name_start, is_name_byte, is_quote, reserved_words, constants, euler_signs, symbols, time_units, imaginary_units, IsOneOf, EachFrom}
use Rattle.qt_lex.specs.declared.number.Radix.{Radix}
use Rattle.qt_lex.specs.Numbers.{prefixes, IsWhole, IsExponent, IsDecimal, IsPlain}
use Rattle.qt_lex.specs.Tokens.{AreWithin, EndsAt, IsToken, IsGap, Lexes, stop, gap, token, token_of, GivesTokens}
use Rattle.qt_lex.proofs.Tables.{and_left, and_right, eqb_same, compare, compare2, heads_are, head_of_one}
use Rattle.qt_lex.proofs.Single.{is_plain_last, lasts_are, last_of_one, whole_last, decimal_last}

module _ (b : ℕ → ℕ) where
  no_nul : (p : ℕ → Bool) (k : ℕ) → p 0 ≡ false → p (b k) ≡ true → b k ≡ 0 → ⊥
  no_nul p k f h e = let g : p 0 ≡ true = subst (λ t. p t ≡ true) e h in cc (f, g)

  run_last : (p : ℕ → Bool) (i j : ℕ) → p 0 ≡ false → i < j → EachFrom b p i j → b (j - 1) ≡ 0 → ⊥
  run_last p i j f lt all = no_nul p (j - 1) f (all (j - 1) (omega (arith, lt)) (omega (arith, lt)))

  table_last : (t : List (List ℕ)) (i j : ℕ) → lasts_are (λ c. not (eqb c 0)) t ≡ true → IsOneOf b t i j → b (j - 1) ≡ 0 → ⊥
  table_last t i j f h = no_nul (λ c. not (eqb c 0)) (j - 1) refl (last_of_one b (λ c. not (eqb c 0)) t i j f h)

  token_last : (k : Kind) (i j : ℕ) → IsToken b k i j → b (j - 1) ≡ 0 → ⊥
  token_last Name i j h e = elim (compare (i + 1) j) [
    | inl lt ↦ run_last is_name_byte (i + 1) j refl lt h.0.others e
    | inr t ↦ elim t [
      | inl same ↦ (let f : j - 1 ≡ i = omega (arith, same) in no_nul is_name_start i refl h.0.first (ap b (sym f) ∙ e))
      | inr more ↦ (let lt : i < j = h.0.some in omega (arith, lt, more))
    ]
  ]
  token_last Reserved i j h e = table_last reserved_words i j refl h e
  token_last Integer i j (r, s, w, lt) e = no_nul is_plain_last (j - 1) refl (whole_last b r s i j w) e
  token_last Wide i j (inl (r, s, w, lt)) e = no_nul is_plain_last (j - 1) refl (whole_last b r s i j w) e
  token_last Wide i j (inr h) e = no_nul is_quote i refl h.0.quote (sym h.0.closed ∙ e)
  token_last Decimal i j h e = no_nul is_plain_last (j - 1) refl (decimal_last b i j h) e
  token_last Timing i j (m, p, u) e = table_last time_units m j refl u e
  token_last Imaginary i j (m, p, u) e = table_last imaginary_units m j refl u e
  token_last Text i j h e = no_nul is_quote i refl h.0.quote (sym h.0.closed ∙ e)
  token_last Hardware i j h e = run_last is_digit (i + 1) j refl h.some h.others e
  token_last Hash i j h e = run_last is_letter (i + 1) j refl h.some h.others e
  token_last Symbol i j h e = table_last symbols i j refl h e
  token_last Constant i j h e = table_last constants i j refl h e
  token_last Euler i j h e = table_last euler_signs i j refl h e
  token_last End i j h e = h

  pub token_within : (k : Kind) (end i j : ℕ) → ((x : ℕ) → end ≤ x → b x ≡ 0) → i < end → IsToken b k i j → j ≤ end
  token_within k end i j z lt h = elim (compare2 j end) [
    | inl le ↦ le
    | inr more ↦ absurd (token_last k i j h (z (j - 1) (omega (arith, more))))
  ]

  pub gap_within : (end i j : ℕ) → ((x : ℕ) → end ≤ x → b x ≡ 0) → i < end → IsGap b end i j → j ≤ end
  gap_within end i j z lt (inl h) = omega (arith, lt, h.1)
  gap_within end i j z lt (inr (inl h)) = h.1.within
  gap_within end i j z lt (inr (inr (h, (m, f, e)))) = elim (compare2 j end) [
    | inl le ↦ le
    | inr more ↦ absurd (
        let s : b (m + 1) ≡ 47 = eqb_same (b (m + 1)) 47 (and_left (eqb (b (m + 1)) 47) true (and_right (eqb (b m) 42) (eqb (b (m + 1)) 47 && true) f.here)) in
        let y : b (m + 1) ≡ 0 = z (m + 1) (omega (arith, more, e)) in
        omega (arith, s, y))
  ]

  table_some : (t : List (List ℕ)) (i j : ℕ) → heads_are (λ c. true) t ≡ true → IsOneOf b t i j → i < j
  table_some t i j f h = (head_of_one b (λ c. true) t i j f h).1

  prefix_ahead : (t : List (List ℕ)) (i j : ℕ) → IsOneOf b t i j → i ≤ j
  prefix_ahead [] i j h = absurd h
  prefix_ahead (x ∷ xs) i j (inl h) = omega (arith, h.1)
  prefix_ahead (x ∷ xs) i j (inr h) = prefix_ahead xs i j h

  whole_some : (r : Radix) (s i j : ℕ) → IsWhole b r s i j → i < j
  whole_some r s i j w = let x : i ≤ s = prefix_ahead (prefixes r) i s w.prefix in let y : s < j = w.digits.some in omega (arith, x, y)

  exponent_some : (s m j : ℕ) → IsExponent b s m j → m < j
  exponent_some s m j x = elim x.start [
    | inl f ↦ (let y : s < j = x.some in omega (arith, y, f))
    | inr f ↦ (let y : s < j = x.some in let z : s ≡ m + 2 = f.1 in omega (arith, y, z))
  ]

  decimal_some : (i j : ℕ) → IsDecimal b i j → i < j
  decimal_some i j (inl (p, h)) = let x : i + 1 < j = h.some in omega (arith, x)
  decimal_some i j (inr (inl (p, m, s, h, e))) = let x : i + 1 < m = h.some in let y : m < j = exponent_some s m j e in omega (arith, x, y)
  decimal_some i j (inr (inr (m, s, lt, all, e))) = let y : m < j = exponent_some s m j e in omega (arith, lt, y)

  plain_some : (i j : ℕ) → IsPlain b i j → i < j
  plain_some i j (inl (r, s, w)) = whole_some r s i j w
  plain_some i j (inr d) = decimal_some i j d

  pub token_some : (k : Kind) (i j : ℕ) → IsToken b k i j → i < j
  token_some Name i j h = h.0.some
  token_some Reserved i j h = table_some reserved_words i j refl h
  token_some Integer i j (r, s, w, lt) = whole_some r s i j w
  token_some Wide i j (inl (r, s, w, lt)) = whole_some r s i j w
  token_some Wide i j (inr h) = let x : i + 1 < j = h.0.some in omega (arith, x)
  token_some Decimal i j h = decimal_some i j h
  token_some Timing i j (m, p, u) = let x : i < m = plain_some i m p in let y : m < j = table_some time_units m j refl u in omega (arith, x, y)
  token_some Imaginary i j (m, p, u) = let x : i < m = plain_some i m p in let y : m < j = table_some imaginary_units m j refl u in omega (arith, x, y)
  token_some Text i j h = let x : i + 1 < j = h.0.some in omega (arith, x)
  token_some Hardware i j h = let x : i + 1 < j = h.some in omega (arith, x)
  token_some Hash i j h = let x : i + 1 < j = h.some in omega (arith, x)
  token_some Symbol i j h = table_some symbols i j refl h
  token_some Constant i j h = table_some constants i j refl h
  token_some Euler i j h = table_some euler_signs i j refl h
  token_some End i j h = absurd h

  not_end : (k : Kind) (i j : ℕ) → IsToken b k i j → k ≡ End → ⊥
  not_end k i j h e = subst (λ t. IsToken b t i j) e h

  cons_ends : (end : ℕ) (t : Token) (rest : List Token) → (t.kind ≡ End → ⊥) → EndsAt end rest → EndsAt end (t ∷ rest)
  cons_ends end t [] n h = absurd h
  cons_ends end t (u ∷ us) n h = (n, h)

  all_within : (file end i : ℕ) (ts : List Token) → ((x : ℕ) → end ≤ x → b x ≡ 0) → i ≤ end → Lexes b file end i ts → AreWithin end ts
  all_within file end i ts z le (stop ge) = (omega arith, le, tt)
  all_within file end i ts z le (gap j lt g h) = all_within file end j ts z (gap_within end i j z lt g) h
  all_within file end i ts z le (token {rest = rest} k j lt s l h) =
      let x : i < j = token_some k i j l.token in
      let y : j ≤ end = token_within k end i j z lt l.token in
      (omega (arith, x), y, all_within file end j rest z y h)

  all_end : (file end i : ℕ) (ts : List Token) → ((x : ℕ) → end ≤ x → b x ≡ 0) → i ≤ end → Lexes b file end i ts → EndsAt end ts
  all_end file end i ts z le (stop ge) = (refl, omega (arith, le, ge), omega (arith, le, ge))
  all_end file end i ts z le (gap j lt g h) = all_end file end j ts z (gap_within end i j z lt g) h
  all_end file end i ts z le (token {rest = rest} k j lt s l h) =
      cons_ends end (token_of b file k i j) rest (not_end k i j l.token) (all_end file end j rest z (token_within k end i j z lt l.token) h)

pub nothing_behind : (text : List ℕ) (x : ℕ) → length text ≤ x → byte text x ≡ 0
nothing_behind text x le = get_or_past text x 0 le

pub tokens_within : (text : List ℕ) (file : ℕ) (tokens : List Token) → GivesTokens text file tokens → AreWithin (length text) tokens
tokens_within text file tokens h = all_within (byte text) file (length text) 0 tokens (nothing_behind text) (omega arith) h

pub tokens_end : (text : List ℕ) (file : ℕ) (tokens : List Token) → GivesTokens text file tokens → EndsAt (length text) tokens
tokens_end text file tokens h = all_end (byte text) file (length text) 0 tokens (nothing_behind text) (omega arith) h
