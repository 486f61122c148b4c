-- Which bytes may follow a lexeme, so that nothing longer begins where it begins.
use Rattle.std.proofs.Common.{◌≡◌, ℕ, ◌+◌, ◌≤◌, inl, inr, Bool, true, false, not, ◌&&◌, ◌||◌, eqb, leb, cond, bytes_eq, List, [], ◌∷◌, ◌++◌, length, codes, refl, sym, ◌∙◌, ap, subst, arith}
use Rattle.qt_lex.specs.declared.number.Radix.{Radix}
use Rattle.qt_lex.specs.declared.number.Radix.TheVariants as radix
use Rattle.qt_lex.specs.Bytes.{is_digit, is_name_byte, is_name_start, is_blank, is_quote, symbols, stands, IsOneOf, time_units, imaginary_units}
use Rattle.qt_lex.specs.Numbers.{is_digit_of, is_exponent_sign, goes_on}
use Rattle.qt_lex.specs.Tokens.{IsSolid}
use Rattle.qt_lex.specs.Answers.{is_decimal_byte}
use Rattle.qt_lex.proofs.Tables.{and_left, and_right, or_cases, not_true, not_false, eqb_same, head_of_one}
use Rattle.qt_lex.proofs.Heads.{may_begin_number}
use Rattle.qt_lex.proofs.Numbers.{is_mark}
use Rattle.qt_round_trip.proofs.lexemes.Spelling.{IsAmong}
use Rattle.qt_round_trip.proofs.lexemes.Tables.{among, same_is}
use Rattle.qt_round_trip.proofs.relexing.Agreeing.{both, eqb_equal}

-- ---- names, reserved words and numbers

-- a byte that may go on a name, a reserved word or a number
abbrev pub continues : ℕ → Bool
continues c = is_name_byte c || (eqb c 46 || leb 128 c)

pub no_name_byte : (c : ℕ) → continues c ≡ false → is_name_byte c ≡ false
no_name_byte c h = grind arith

pub no_digit : (c : ℕ) → continues c ≡ false → is_digit c ≡ false
no_digit c h = grind arith

pub no_decimal_byte : (c : ℕ) → continues c ≡ false → is_decimal_byte c ≡ true → ⊥
no_decimal_byte c h g = grind arith

pub no_mark : (c : ℕ) → continues c ≡ false → is_mark c ≡ true → ⊥
no_mark c h g = grind arith

pub no_exponent : (c : ℕ) → continues c ≡ false → is_exponent_sign c ≡ true → ⊥
no_exponent c h g = grind arith

pub no_t : (c : ℕ) → continues c ≡ false → c ≡ 116 → ⊥
no_t c h g = grind arith

no_digit_of : (r : Radix) (c : ℕ) → continues c ≡ false → is_digit_of r c ≡ true → ⊥
no_digit_of radix.Binary c h g = grind arith
no_digit_of radix.Octal c h g = grind arith
no_digit_of radix.Decimal c h g = grind arith
no_digit_of radix.Hexadecimal c h g = grind arith

no_underscore : (c : ℕ) → continues c ≡ false → eqb c 95 ≡ true → ⊥
no_underscore c h g = grind arith

module _ (b : ℕ → ℕ) where
  pub stops : (r : Radix) (k : ℕ) → continues (b k) ≡ false → goes_on b r k ≡ false
  stops r k h = not_true (goes_on b r k) (λ g. elim (or_cases (is_digit_of r (b k)) (eqb (b k) 95 && is_digit_of r (b (k + 1))) g) [
    | inl d ↦ no_digit_of r (b k) h d
    | inr d ↦ no_underscore (b k) h (and_left (eqb (b k) 95) (is_digit_of r (b (k + 1))) d)
  ])

  pub no_time_unit : (i j : ℕ) → continues (b i) ≡ false → IsOneOf b time_units i j → ⊥
  no_time_unit i j h u = let g : continues (b i) ≡ true = (head_of_one b continues time_units i j refl u).0 in cc (g, h)

  pub no_imaginary_unit : (i j : ℕ) → continues (b i) ≡ false → IsOneOf b imaginary_units i j → ⊥
  no_imaginary_unit i j h u = let g : continues (b i) ≡ true = (head_of_one b continues imaginary_units i j refl u).0 in cc (g, h)

-- ---- what is no blank and no comment, by its first byte

abbrev pub is_solid_byte : ℕ → Bool
is_solid_byte c = not (is_blank c || eqb c 47)

no_blank : (c : ℕ) → is_solid_byte c ≡ true → is_blank c ≡ false
no_blank c h = grind arith

no_slash : (c : ℕ) → is_solid_byte c ≡ true → eqb c 47 ≡ false
no_slash c h = grind arith

pub name_is_solid : (c : ℕ) → is_name_start c ≡ true → is_solid_byte c ≡ true
name_is_solid c h = grind arith

pub number_is_solid : (c : ℕ) → may_begin_number c ≡ true → is_solid_byte c ≡ true
number_is_solid c h = grind arith

pub quote_is_solid : (c : ℕ) → is_quote c ≡ true → is_solid_byte c ≡ true
quote_is_solid c h = grind arith

module _ (b : ℕ → ℕ) where
  pub solid_by_byte : (i : ℕ) → is_solid_byte (b i) ≡ true → IsSolid b i
  solid_by_byte i h = record {
    no_blank = no_blank (b i) h;
    no_line = ap (λ t. t && stands b (47 ∷ []) (i + 1)) (no_slash (b i) h);
    no_comment = ap (λ t. t && stands b (42 ∷ []) (i + 1)) (no_slash (b i) h);
  }

-- ---- symbols

-- the byte by which a text goes on where it begins with another and is longer
abbrev pub next : List ℕ → List ℕ → List ℕ
next [] x = []
next (y ∷ ys) [] = y ∷ []
next (y ∷ ys) (x ∷ xs) = cond (eqb y x) (next ys xs) []

abbrev pub nexts : List (List ℕ) → List ℕ → List ℕ
nexts [] x = []
nexts (y ∷ ys) x = next y x ++ nexts ys x

abbrev pub none_of : List ℕ → ℕ → Bool
none_of [] c = true
none_of (x ∷ xs) c = not (eqb c x) && none_of xs c

-- no symbol and no opening of a comment goes on from this text with this byte
abbrev pub ends_symbol : List ℕ → ℕ → Bool
ends_symbol x c = none_of (nexts symbols x) c && (none_of (next (codes "//") x) c && none_of (next (codes "/*") x) c)

abbrev pub begins : List ℕ → List ℕ → Bool
begins [] x = true
begins (y ∷ ys) [] = false
begins (y ∷ ys) (x ∷ xs) = eqb y x && begins ys xs

abbrev pub each : (List ℕ → Bool) → List (List ℕ) → Bool
each p [] = true
each p (x ∷ xs) = p x && each p xs

-- what a test says of each text of a table
pub each_among : (p : List ℕ → Bool) (t : List (List ℕ)) (text : List ℕ) → each p t ≡ true → IsAmong t text → p text ≡ true
each_among p [] text h m = absurd m
each_among p (x ∷ xs) text h (inl e) = ap p e ∙ and_left (p x) (each p xs) h
each_among p (x ∷ xs) text h (inr m) = each_among p xs text (and_right (p x) (each p xs) h) m

none_both : (xs ys : List ℕ) (c : ℕ) → none_of (xs ++ ys) c ≡ true → (none_of xs c ≡ true) × (none_of ys c ≡ true)
none_both [] ys c h = (refl, h)
none_both (x ∷ xs) ys c h =
    let r = none_both xs ys c (and_right (not (eqb c x)) _ h) in
    (both _ _ (and_left (not (eqb c x)) _ h) r.0, r.1)

module _ (b : ℕ → ℕ) where
  pub one_of : (t : List (List ℕ)) (x : List ℕ) (i : ℕ) → among t x ≡ true → stands b x i ≡ true → IsOneOf b t i (i + length x)
  one_of [] x i h g = absurd (cc h)
  one_of (y ∷ ys) x i h g = elim (or_cases (bytes_eq x y) (among ys x) h) [
    | inl e ↦ let z : x ≡ y = same_is x y e in inl (subst (λ t. stands b t i ≡ true) z g, ap (λ t. i + length t) z)
    | inr m ↦ inr (one_of ys x i m g)
  ]

  no_next : (y x : List ℕ) (i : ℕ) → stands b y i ≡ true → stands b x i ≡ true → none_of (next y x) (b (i + length x)) ≡ true → length y ≤ length x
  no_next [] x i h g n = omega arith
  no_next (y ∷ ys) [] i h g n = absurd (
      let z : i + 0 ≡ i = omega arith in
      let e : eqb (b i) y ≡ true = and_left (eqb (b i) y) _ h in
      let f : eqb (b i) y ≡ false = not_false _ (ap (λ t. not (eqb (b t) y)) (sym z) ∙ and_left (not (eqb (b (i + 0)) y)) true n) in
      cc (e, f))
  no_next (y ∷ ys) (x ∷ xs) i h g n =
      let e : b i ≡ y = eqb_same (b i) y (and_left (eqb (b i) y) _ h) in
      let f : b i ≡ x = eqb_same (b i) x (and_left (eqb (b i) x) _ g) in
      let same : eqb y x ≡ true = eqb_equal y x (sym e ∙ f) in
      let z : i + length (x ∷ xs) ≡ (i + 1) + length xs = omega arith in
      let m : none_of (next ys xs) (b (i + length (x ∷ xs))) ≡ true = subst (λ v. none_of (cond v (next ys xs) []) (b (i + length (x ∷ xs))) ≡ true) same n in
      let le : length ys ≤ length xs = no_next ys xs (i + 1) (and_right (eqb (b i) y) _ h) (and_right (eqb (b i) x) _ g) (subst (λ t. none_of (next ys xs) (b t) ≡ true) z m) in
      omega (arith, le)

  -- where a text stands and ends, nothing longer of the table stands
  pub none_longer : (t : List (List ℕ)) (x : List ℕ) (i j : ℕ) → stands b x i ≡ true → none_of (nexts t x) (b (i + length x)) ≡ true → IsOneOf b t i j → j ≤ i + length x
  none_longer [] x i j g n h = absurd h
  none_longer (y ∷ ys) x i j g n (inl h) =
      let le : length y ≤ length x = no_next y x i h.0 g (none_both (next y x) (nexts ys x) _ n).0 in
      omega (arith, le, h.1)
  none_longer (y ∷ ys) x i j g n (inr h) = none_longer ys x i j g (none_both (next y x) (nexts ys x) _ n).1 h

  stands_begins : (y x : List ℕ) (i : ℕ) → stands b y i ≡ true → stands b x i ≡ true → length y ≤ length x → begins y x ≡ true
  stands_begins [] x i h g le = refl
  stands_begins (y ∷ ys) [] i h g le = absurd (omega (arith, le))
  stands_begins (y ∷ ys) (x ∷ xs) i h g le =
      let e : b i ≡ y = eqb_same (b i) y (and_left (eqb (b i) y) _ h) in
      let f : b i ≡ x = eqb_same (b i) x (and_left (eqb (b i) x) _ g) in
      both _ _ (eqb_equal y x (sym e ∙ f)) (stands_begins ys xs (i + 1) (and_right (eqb (b i) y) _ h) (and_right (eqb (b i) x) _ g) (omega (arith, le)))

  -- a text that a symbol neither begins with nor may go on to isn't there
  pub no_opening : (y x : List ℕ) (i : ℕ) → begins y x ≡ false → stands b x i ≡ true → none_of (next y x) (b (i + length x)) ≡ true → stands b y i ≡ false
  no_opening y x i f g n = not_true (stands b y i) (λ h. let t : begins y x ≡ true = stands_begins y x i h g (no_next y x i h g n) in cc (f, t))
