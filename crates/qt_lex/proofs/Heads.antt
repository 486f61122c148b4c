-- The first byte of a token tells its kind from most others.
use Rattle.std.proofs.Common.{◌≡◌, ℕ, ◌+◌, inl, inr, Bool, true, false, ◌&&◌, ◌||◌, eqb, cond, refl, ◌∙◌, ap, subst, arith}
use Rattle.qt_lex.specs.declared.tokens.Kind.{Kind}
use Rattle.qt_lex.specs.declared.tokens.Kind.TheVariants.{Name, Reserved, Integer, Wide, Decimal, Timing, Imaginary, Text, Hardware, Hash, Symbol, Constant, Euler, End}
use Rattle.qt_lex.specs.declared.number.Radix.{Radix}
use Rattle.qt_lex.specs.declared.number.Radix.TheVariants as radix
use Rattle.qt_lex.specs.Bytes.{is_digit, is_name_start, is_quote, reserved_words, constants, euler_signs, symbols}
use Rattle.qt_lex.specs.Numbers.{IsWhole, IsPointed, IsDecimal, IsPlain}
use Rattle.qt_lex.specs.Tokens.{IsToken}
use Rattle.qt_lex.proofs.Tables.{and_left, or_left, or_cases, not_true, eqb_same, compare, head_of_one}

abbrev pub may_begin_number : ℕ → Bool
may_begin_number c = is_digit c || eqb c 46

abbrev pub head_4 : ℕ → ℕ
head_4 c = cond (eqb c 35) 4 (cond (eqb c 207) 6 (cond (eqb c 226) 7 5))

abbrev pub head_3 : ℕ → ℕ
head_3 c = cond (eqb c 36) 3 (head_4 c)

abbrev pub head_2 : ℕ → ℕ
head_2 c = cond (is_quote c) 2 (head_3 c)

abbrev pub head_1 : ℕ → ℕ
head_1 c = cond (may_begin_number c) 1 (head_2 c)

-- what a byte begins: 0 words, 1 numbers, 2 texts, 3 and 4 marked ones, 5 symbols, 6 and 7 signs outside ASCII
abbrev pub head : ℕ → ℕ
head c = cond (is_name_start c) 0 (head_1 c)

abbrev pub class : Kind → ℕ → Bool
class Name h = eqb h 0
class Reserved h = eqb h 0
class Integer h = eqb h 1
class Wide h = eqb h 1 || eqb h 2
class Decimal h = eqb h 1
class Timing h = eqb h 1
class Imaginary h = eqb h 1
class Text h = eqb h 2
class Hardware h = eqb h 3
class Hash h = eqb h 4
class Symbol h = eqb h 5
class Constant h = eqb h 0 || eqb h 6
class Euler h = eqb h 7
class End h = false

number_no_word : (c : ℕ) → may_begin_number c ≡ true → is_name_start c ≡ true → ⊥
number_no_word c h g = grind arith

pub number_no_quote : (c : ℕ) → may_begin_number c ≡ true → is_quote c ≡ true → ⊥
number_no_quote c h g = grind arith

pub head_word : (c : ℕ) → is_name_start c ≡ true → head c ≡ 0
head_word c h = ap (λ t. cond t 0 (head_1 c)) h

pub head_number : (c : ℕ) → may_begin_number c ≡ true → head c ≡ 1
head_number c h = ap (λ t. cond t 0 (head_1 c)) (not_true (is_name_start c) (number_no_word c h)) ∙ ap (λ t. cond t 1 (head_2 c)) h

pub head_quote : (c : ℕ) → is_quote c ≡ true → head c ≡ 2
head_quote c h = elim (or_cases (eqb c 34) (eqb c 39) h) [
  | inl e ↦ ap head (eqb_same c 34 e)
  | inr e ↦ ap head (eqb_same c 39 e)
]

module _ (b : ℕ → ℕ) where
  pub whole_head : (r : Radix) (s i j : ℕ) → IsWhole b r s i j → is_digit (b i) ≡ true
  whole_head radix.Binary s i j w = elim w.prefix [
    | inl h ↦ ap is_digit (eqb_same (b i) 48 (and_left _ (eqb (b (i + 1)) 98 && true) h.0))
    | inr t ↦ elim t [ inl h ↦ ap is_digit (eqb_same (b i) 48 (and_left _ (eqb (b (i + 1)) 66 && true) h.0)) | inr n ↦ absurd n ]
  ]
  whole_head radix.Octal s i j w = elim w.prefix [
    | inl h ↦ ap is_digit (eqb_same (b i) 48 (and_left _ (eqb (b (i + 1)) 111 && true) h.0))
    | inr n ↦ absurd n
  ]
  whole_head radix.Decimal s i j w = elim w.prefix [
    | inl h ↦ let e : s ≡ i = omega (arith, h.1) in subst (λ t. is_digit (b t) ≡ true) e w.digits.first
    | inr n ↦ absurd n
  ]
  whole_head radix.Hexadecimal s i j w = elim w.prefix [
    | inl h ↦ ap is_digit (eqb_same (b i) 48 (and_left _ (eqb (b (i + 1)) 120 && true) h.0))
    | inr t ↦ elim t [ inl h ↦ ap is_digit (eqb_same (b i) 48 (and_left _ (eqb (b (i + 1)) 88 && true) h.0)) | inr n ↦ absurd n ]
  ]

  pub quote_no_whole : (r : Radix) (s i j : ℕ) → is_quote (b i) ≡ true → IsWhole b r s i j → ⊥
  quote_no_whole r s i j q w = number_no_quote (b i) (or_left (is_digit (b i)) (eqb (b i) 46) (whole_head r s i j w)) q

  pointed_head : (p i j : ℕ) → IsPointed b p i j → may_begin_number (b i) ≡ true
  pointed_head p i j h = elim (compare i p) [
    | inl lt ↦ or_left (is_digit (b i)) (eqb (b i) 46) (h.before i (omega arith) lt)
    | inr t ↦ elim t [
      | inl e ↦ let f : b i ≡ 46 = ap b e ∙ h.point in ap may_begin_number f
      | inr gt ↦ absurd (omega (arith, gt, h.ahead))
    ]
  ]

  pub decimal_head : (i j : ℕ) → IsDecimal b i j → may_begin_number (b i) ≡ true
  decimal_head i j (inl (p, h)) = pointed_head p i j h
  decimal_head i j (inr (inl (p, m, s, h, e))) = pointed_head p i m h
  decimal_head i j (inr (inr (m, s, lt, all, e))) = or_left (is_digit (b i)) (eqb (b i) 46) (all i (omega arith) lt)

  pub plain_head : (i j : ℕ) → IsPlain b i j → may_begin_number (b i) ≡ true
  plain_head i j (inl (r, s, w)) = or_left (is_digit (b i)) (eqb (b i) 46) (whole_head r s i j w)
  plain_head i j (inr d) = decimal_head i j d

  number_class : (c : ℕ) → may_begin_number c ≡ true → eqb (head c) 1 ≡ true
  number_class c h = ap (λ t. eqb t 1) (head_number c h)

  pub head_is : (k : Kind) (i j : ℕ) → IsToken b k i j → class k (head (b i)) ≡ true
  head_is Name i j h = ap (λ t. eqb t 0) (head_word (b i) h.0.first)
  head_is Reserved i j h = (head_of_one b (λ c. eqb (head c) 0) reserved_words i j refl h).0
  head_is Integer i j (r, s, w, lt) = number_class (b i) (or_left _ _ (whole_head r s i j w))
  head_is Wide i j (inl (r, s, w, le)) = or_left (eqb (head (b i)) 1) (eqb (head (b i)) 2) (number_class (b i) (or_left _ _ (whole_head r s i j w)))
  head_is Wide i j (inr h) = ap (λ t. eqb t 1 || eqb t 2) (head_quote (b i) h.0.quote)
  head_is Decimal i j h = number_class (b i) (decimal_head i j h)
  head_is Timing i j (m, p, u) = number_class (b i) (plain_head i m p)
  head_is Imaginary i j (m, p, u) = number_class (b i) (plain_head i m p)
  head_is Text i j h = ap (λ t. eqb t 2) (head_quote (b i) h.0.quote)
  head_is Hardware i j h = ap (λ t. eqb (head t) 3) h.first
  head_is Hash i j h = ap (λ t. eqb (head t) 4) h.first
  head_is Symbol i j h = (head_of_one b (λ c. eqb (head c) 5) symbols i j refl h).0
  head_is Constant i j h = (head_of_one b (λ c. eqb (head c) 0 || eqb (head c) 6) constants i j refl h).0
  head_is Euler i j h = (head_of_one b (λ c. eqb (head c) 7) euler_signs i j refl h).0
  head_is End i j h = absurd h

  -- a token of another class doesn't begin there
  pub other : (k : Kind) (n i j : ℕ) → class k n ≡ false → head (b i) ≡ n → IsToken b k i j → ⊥
  other k n i j f e h =
      let u : class k (head (b i)) ≡ true = head_is k i j h in
      let v : class k n ≡ true = subst (λ t. class k t ≡ true) e u in
      cc (f, v)
