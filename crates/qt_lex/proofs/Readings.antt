-- A text gives tokens, or has a character to blame.
use Rattle.std.proofs.Common.{◌≡◌, ℕ, zero, suc, ◌+◌, ◌-◌, ◌≤◌, ◌<◌, ◌⊎◌, inl, inr, Bool, true, false, ◌&&◌, eqb, List, [], ◌∷◌, length, refl, sym, ap, ◌∙◌, subst, arith}
use Rattle.qt_tree.specs.declared.place.Place.{Place}
use Rattle.qt_lex.specs.declared.tokens.Kind.{Kind}
use Rattle.qt_lex.specs.declared.tokens.Kind.TheVariants.{End}
use Rattle.qt_lex.specs.declared.tokens.Token.{Token}
use Rattle.qt_lex.specs.Bytes.{byte, is_blank, stands}
use Rattle.qt_lex.specs.Tokens.{LongestToken, NoToken, FirstAt, IsLineEnd, IsGap, IsSolid, IsUnclosed, Lexes, stop, gap, token, Fails, open_comment, no_token, behind_gap, behind_token, token_of, place_of, GivesTokens, FailsAt}
use Rattle.qt_lex.specs.Theorems.{HasOneReading}
use Rattle.qt_lex.proofs.Tables.{and_left, and_right, eqb_same, compare2}
use Rattle.qt_lex.proofs.Spans.{token_some, nothing_behind}
use Rattle.qt_lex.proofs.Exact.{tokens_one, tokens_or_fault, fault_one}
use Rattle.qt_lex.proofs.Decided.{token_or_none}

module _ (b : ℕ → ℕ) (end : ℕ) (nothing : (x : ℕ) → end ≤ x → b x ≡ 0) where
  -- the end of a line, n places before the end of the text
  line_end : (n i : ℕ) → i + n ≡ end → (j : ℕ) × IsLineEnd b end i j
  line_end zero i at = (i, record { ahead = omega arith; within = omega (arith, at); none = λ k le lt. absurd (omega (arith, le, lt)); stop = inr (omega (arith, at)) })
  line_end (suc n) i at = step (eqb (b i) 10) refl (line_end n (i + 1) (omega (arith, at)))
    where
      step : (v : Bool) → eqb (b i) 10 ≡ v → (j : ℕ) × IsLineEnd b end (i + 1) j → (j : ℕ) × IsLineEnd b end i j
      step true is rest = (i, record { ahead = omega arith; within = omega (arith, at); none = λ k le lt. absurd (omega (arith, le, lt)); stop = inl (eqb_same (b i) 10 is) })
      step false is rest = (
        rest.0,
        record {
          ahead = (let x : i + 1 ≤ rest.0 = rest.1.ahead in omega (arith, x));
          within = rest.1.within;
          none = λ k le lt. elim (compare2 (i + 1) k) [ inl more ↦ rest.1.none k more lt | inr less ↦ subst (λ t. eqb (b t) 10 ≡ false) (omega (arith, le, less)) is ];
          stop = rest.1.stop;
        },
      )

  nothing_stands : (k x : ℕ) (xs : List ℕ) → end ≤ k → eqb 0 x ≡ false → stands b (x ∷ xs) k ≡ false
  nothing_stands k x xs le apart = let e : eqb (b k) x ≡ false = ap (λ t. eqb t x) (nothing k le) ∙ apart in ap (λ t. t && stands b xs (k + 1)) e

  -- the first place where these bytes stand, if they do
  first_at : (x : ℕ) (xs : List ℕ) → eqb 0 x ≡ false → (n i : ℕ) → end ≤ i + n
      → ((j : ℕ) × FirstAt b (x ∷ xs) i j) ⊎ ((k : ℕ) → i ≤ k → stands b (x ∷ xs) k ≡ false)
  first_at x xs apart zero i le = inr (λ k ge. nothing_stands k x xs (omega (arith, le, ge)) apart)
  first_at x xs apart (suc n) i le = step (stands b (x ∷ xs) i) refl (first_at x xs apart n (i + 1) (omega (arith, le)))
    where
      step : (v : Bool) → stands b (x ∷ xs) i ≡ v → ((j : ℕ) × FirstAt b (x ∷ xs) (i + 1) j) ⊎ ((k : ℕ) → i + 1 ≤ k → stands b (x ∷ xs) k ≡ false)
          → ((j : ℕ) × FirstAt b (x ∷ xs) i j) ⊎ ((k : ℕ) → i ≤ k → stands b (x ∷ xs) k ≡ false)
      step true is rest = inl (i, record { ahead = omega arith; here = is; none = λ k ge lt. absurd (omega (arith, ge, lt)) })
      step false is (inl found) = inl (
        found.0,
        record {
          ahead = (let y : i + 1 ≤ found.0 = found.1.ahead in omega (arith, y));
          here = found.1.here;
          none = λ k ge lt. elim (compare2 (i + 1) k) [ inl more ↦ found.1.none k more lt | inr less ↦ subst (λ t. stands b (x ∷ xs) t ≡ false) (omega (arith, ge, less)) is ];
        },
      )
      step false is (inr none) = inr (λ k ge. elim (compare2 (i + 1) k) [ inl more ↦ none k more | inr less ↦ subst (λ t. stands b (x ∷ xs) t ≡ false) (omega (arith, ge, less)) is ])

  -- what may begin at a place: a blank or a comment up to its end, a comment that isn't closed, or neither
  abbrev Begins : ℕ → Type 0
  Begins i = ((j : ℕ) × (i < j) × IsGap b end i j) ⊎ (IsUnclosed b i ⊎ IsSolid b i)

  second_is : (i y : ℕ) → stands b (47 ∷ y ∷ []) i ≡ true → b (i + 1) ≡ y
  second_is i y h = eqb_same (b (i + 1)) y (and_left (eqb (b (i + 1)) y) true (and_right (eqb (b i) 47) (eqb (b (i + 1)) y && true) h))

  line_comment : (i : ℕ) → i < end → stands b (47 ∷ 47 ∷ []) i ≡ true → Begins i
  line_comment i lt h = elim (compare2 end (i + 1)) [
    | inl le ↦ absurd (let e : b (i + 1) ≡ 47 = second_is i 47 h in let z : b (i + 1) ≡ 0 = nothing (i + 1) le in omega (arith, e, z))
    | inr more ↦ (
        let d : i + 2 ≤ end = omega (arith, more) in
        let line : (j : ℕ) × IsLineEnd b end (i + 2) j = line_end (end - (i + 2)) (i + 2) (omega (arith, d)) in
        let ahead : i + 2 ≤ line.0 = line.1.ahead in
        inl (line.0, omega (arith, ahead), inr (inl (h, line.1))))
  ]

  comment : (i : ℕ) → stands b (47 ∷ 42 ∷ []) i ≡ true → Begins i
  comment i h = elim (first_at 42 (47 ∷ []) refl end (i + 2) (omega arith)) [
    | inl found ↦ (let ahead : i + 2 ≤ found.0 = found.1.ahead in inl (found.0 + 2, omega (arith, ahead), inr (inr (h, (found.0, found.1, refl)))))
    | inr none ↦ inr (inl (record { opening = h; never = none }))
  ]

  begins : (i : ℕ) → i < end → Begins i
  begins i lt = step (is_blank (b i)) (stands b (47 ∷ 47 ∷ []) i) (stands b (47 ∷ 42 ∷ []) i) refl refl refl
    where
      step : (u v w : Bool) → is_blank (b i) ≡ u → stands b (47 ∷ 47 ∷ []) i ≡ v → stands b (47 ∷ 42 ∷ []) i ≡ w → Begins i
      step true v w is_u is_v is_w = inl (i + 1, omega arith, inl (is_u, refl))
      step false true w is_u is_v is_w = line_comment i lt is_v
      step false false true is_u is_v is_w = comment i is_w
      step false false false is_u is_v is_w = inr (inr (record { no_blank = is_u; no_line = is_v; no_comment = is_w }))

  -- from a place on the text gives tokens, or has a character to blame
  abbrev Reads : ℕ → ℕ → Type 0
  Reads file i = ((tokens : List Token) × Lexes b file end i tokens) ⊎ ((p : ℕ) × Fails b end i p)

  at_token : (file i : ℕ) → ((j : ℕ) → i < j → Reads file j) → i < end → IsSolid b i → ((k : Kind) × (j : ℕ) × LongestToken b k i j) ⊎ NoToken b i → Reads file i
  at_token file i behind lt solid (inr none) = inr (i, no_token lt solid none)
  at_token file i behind lt solid (inl (k, j, longest)) = elim (behind j (token_some b k i j longest.token)) [
    | inl rest ↦ inl (token_of b file k i j ∷ rest.0, token k j lt solid longest rest.1)
    | inr fault ↦ inr (fault.0, behind_token k j lt solid longest fault.1)
  ]

  at_place : (file i : ℕ) → ((j : ℕ) → i < j → Reads file j) → i < end → Begins i → Reads file i
  at_place file i behind lt (inl (j, ahead, blank)) = elim (behind j ahead) [
    | inl rest ↦ inl (rest.0, gap j lt blank rest.1)
    | inr fault ↦ inr (fault.0, behind_gap j lt blank fault.1)
  ]
  at_place file i behind lt (inr (inl unclosed)) = inr (i, open_comment lt unclosed)
  at_place file i behind lt (inr (inr solid)) = at_token file i behind lt solid (token_or_none b end i nothing lt)

  reads : (file n i : ℕ) → end ≤ i + n → Reads file i
  reads file zero i le = inl (token_of b file End i i ∷ [], stop (omega (arith, le)))
  reads file (suc n) i le = elim (compare2 end i) [
    | inl past ↦ inl (token_of b file End i i ∷ [], stop past)
    | inr lt ↦ at_place file i (λ j ahead. reads file n j (omega (arith, le, ahead))) lt (begins i lt)
  ]

-- a text gives tokens, or has a character to blame
pub some_reading : (text : List ℕ) (file : ℕ) → ((tokens : List Token) × GivesTokens text file tokens) ⊎ ((place : Place) × FailsAt text file place)
some_reading text file = elim (reads (byte text) (length text) (nothing_behind text) file (length text) 0 (omega arith)) [
  | inl given ↦ inl given
  | inr fault ↦ inr (place_of (byte text) file fault.0, (fault.0, fault.1, refl))
]

pub one_list : (text : List ℕ) (file : ℕ) (p q : List Token) → GivesTokens text file p → GivesTokens text file q → p ≡ q
one_list text file p q h g = tokens_one (byte text) file (length text) (nothing_behind text (length text) (omega arith)) 0 p q h g

pub one_fault : (text : List ℕ) (file : ℕ) (p q : Place) → FailsAt text file p → FailsAt text file q → p ≡ q
one_fault text file p q h g = h.2 ∙ ap (place_of (byte text) file) (fault_one (byte text) (length text) (nothing_behind text (length text) (omega arith)) 0 h.0 g.0 h.1 g.1) ∙ sym g.2

pub list_or_fault : (text : List ℕ) (file : ℕ) (p : List Token) (q : Place) → GivesTokens text file p → FailsAt text file q → ⊥
list_or_fault text file p q h g = tokens_or_fault (byte text) file (length text) (nothing_behind text (length text) (omega arith)) 0 p g.0 h g.1

pub one_reading : (text : List ℕ) (file : ℕ) → HasOneReading text file
one_reading text file = record { some = some_reading text file; tokens = one_list text file; refusals = one_fault text file; either = list_or_fault text file }
