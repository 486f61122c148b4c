-- Whether a text spells a token of some kind from one place up to another can be decided, and so the longest token is found.
use Rattle.std.proofs.Common.{◌≡◌, ℕ, zero, suc, ◌+◌, ◌-◌, ◌^◌, ◌≤◌, ◌<◌, ◌⊎◌, inl, inr, Bool, true, false, ◌||◌, eqb, List, [], ◌∷◌, length, refl, subst, arith}
use Rattle.qt_lex.specs.declared.tokens.Kind.{Kind}
use Rattle.qt_lex.specs.declared.tokens.Kind.TheVariants.{Name, Reserved, Integer, Wide, Decimal, Timing, Imaginary, Text, Hardware, Hash, Symbol, Constant, Euler, End}
use Rattle.qt_lex.specs.declared.number.Radix.{Radix}
use Rattle.qt_lex.specs.declared.number.Radix.TheVariants as radix
use Rattle.qt_lex.specs.Bytes.{is_digit, is_letter, is_name_start, is_name_byte, is_quote, reserved_words, constants, euler_signs, symbols, time_units, imaginary_units, stands, IsOneOf, EachFrom}
use Rattle.qt_lex.specs.Numbers.{base_of, prefixes, is_digit_of, is_exponent_sign, is_sign, goes_on, number_of, IsDigits, IsWhole, IsInteger, IsWide, IsPointed, IsExponent, IsDecimal, IsPlain, IsTiming, IsImaginary}
use Rattle.qt_lex.specs.Tokens.{IsWord, IsText, is_wide_text, IsMarked, IsToken, LongestToken, NoToken}
use Rattle.qt_lex.proofs.Tables.{compare2, head_of_one}
use Rattle.qt_lex.proofs.Spans.{token_within}

-- it holds, or it doesn't
abbrev pub Decided : Type 0 → Type 0
Decided A = A ⊎ (A → ⊥)

pub both : {A B : Type 0} → Decided A → Decided B → Decided (A × B)
both (inl a) (inl b) = inl (a, b)
both (inl a) (inr n) = inr (λ h. n h.1)
both (inr n) d = inr (λ h. n h.0)

pub one_of : {A B : Type 0} → Decided A → Decided B → Decided (A ⊎ B)
one_of (inl a) d = inl (inl a)
one_of (inr n) (inl b) = inl (inr b)
one_of (inr n) (inr m) = inr (λ h. elim h [ inl a ↦ n a | inr b ↦ m b ])

pub given : {A B : Type 0} → Decided A → Decided B → Decided (A → B)
given (inr n) d = inl (λ a. absurd (n a))
given (inl a) (inl b) = inl (λ c. b)
given (inl a) (inr n) = inr (λ f. n (f a))

-- the same of what it is another word for
pub same : {A B : Type 0} → Decided A → (A → B) → (B → A) → Decided B
same (inl a) f g = inl (f a)
same (inr not_so) f g = inr (λ h. not_so (g h))

pub never : {A : Type 0} → Decided A → Decided (A → ⊥)
never (inl a) = inr (λ f. f a)
never (inr n) = inl n

pub passes : (v : Bool) → Decided (v ≡ true)
passes true = inl refl
passes false = inr (λ e. absurd (cc e))

pub fails : (v : Bool) → Decided (v ≡ false)
fails true = inr (λ e. absurd (cc e))
fails false = inl refl

pub below : (m n : ℕ) → Decided (m < n)
below m n = elim (compare2 n m) [ inl le ↦ inr (λ lt. omega (arith, le, lt)) | inr lt ↦ inl lt ]

pub within : (m n : ℕ) → Decided (m ≤ n)
within m n = elim (compare2 m n) [ inl le ↦ inl le | inr lt ↦ inr (λ le. omega (arith, le, lt)) ]

pub equal : (m n : ℕ) → Decided (m ≡ n)
equal m n = elim (within m n) [
  | inr not_so ↦ inr (λ e. not_so (omega (arith, e)))
  | inl le ↦ elim (within n m) [ inl ge ↦ inl (omega (arith, le, ge)) | inr not_so ↦ inr (λ e. not_so (omega (arith, e))) ]
]

-- for numbers below n what can be decided of one can be decided of all, and of some
pub all_below : (P : ℕ → Type 0) → ((k : ℕ) → Decided (P k)) → (n : ℕ) → Decided ((k : ℕ) → k < n → P k)
all_below P d zero = inl (λ k lt. absurd (omega (arith, lt)))
all_below P d (suc n) = step (d n) (all_below P d n)
  where
    step : Decided (P n) → Decided ((k : ℕ) → k < n → P k) → Decided ((k : ℕ) → k < suc n → P k)
    step (inr not_so) rest = inr (λ f. not_so (f n (omega arith)))
    step (inl holds) (inr not_so) = inr (λ f. not_so (λ k lt. f k (omega (arith, lt))))
    step (inl holds) (inl all) = inl (λ k lt. elim (below k n) [ inl less ↦ all k less | inr more ↦ subst P (last k lt more) holds ])
      where
        last : (k : ℕ) → k < suc n → (k < n → ⊥) → n ≡ k
        last k lt more = elim (compare2 n k) [ inl le ↦ omega (arith, lt, le) | inr less ↦ absurd (more less) ]

pub some_below : (P : ℕ → Type 0) → ((k : ℕ) → Decided (P k)) → (n : ℕ) → ((k : ℕ) → P k → k < n) → Decided ((k : ℕ) × P k)
some_below P d n bound = elim (all_below (λ k. P k → ⊥) (λ k. never (d k)) n) [
  | inl none ↦ inr (λ h. none h.0 (bound h.0 h.1) h.1)
  | inr not_so ↦ inl (found n not_so)
]
  where
    found : (m : ℕ) → (((k : ℕ) → k < m → P k → ⊥) → ⊥) → (k : ℕ) × P k
    found zero not_so = absurd (not_so (λ k lt h. omega (arith, lt)))
    found (suc m) not_so = elim (d m) [
      | inl holds ↦ (m, holds)
      | inr not_m ↦ found m (λ none. not_so (λ k lt h. elim (below k m) [ inl less ↦ none k less h | inr more ↦ not_m (subst P (last k lt more) h) ]))
    ]
      where
        last : (k : ℕ) → k < suc m → (k < m → ⊥) → k ≡ m
        last k lt more = elim (compare2 m k) [ inl le ↦ omega (arith, lt, le) | inr less ↦ absurd (more less) ]

-- the same for the bases
pub some_radix : (P : Radix → Type 0) → ((r : Radix) → Decided (P r)) → Decided ((r : Radix) × P r)
some_radix P d = step (d radix.Binary) (d radix.Octal) (d radix.Decimal) (d radix.Hexadecimal)
  where
    step : Decided (P radix.Binary) → Decided (P radix.Octal) → Decided (P radix.Decimal) → Decided (P radix.Hexadecimal) → Decided ((r : Radix) × P r)
    step (inl h) o t x = inl (radix.Binary, h)
    step (inr b) (inl h) t x = inl (radix.Octal, h)
    step (inr b) (inr o) (inl h) x = inl (radix.Decimal, h)
    step (inr b) (inr o) (inr t) (inl h) = inl (radix.Hexadecimal, h)
    step (inr b) (inr o) (inr t) (inr x) = inr none
      where
        none : ((r : Radix) × P r) → ⊥
        none (radix.Binary, h) = b h
        none (radix.Octal, h) = o h
        none (radix.Decimal, h) = t h
        none (radix.Hexadecimal, h) = x h

module _ (b : ℕ → ℕ) where
  one_of_table : (t : List (List ℕ)) (i j : ℕ) → Decided (IsOneOf b t i j)
  one_of_table [] i j = inr (λ h. h)
  one_of_table (x ∷ xs) i j = one_of (both (passes (stands b x i)) (equal j (i + length x))) (one_of_table xs i j)

  each_from : (p : ℕ → Bool) (i j : ℕ) → Decided (EachFrom b p i j)
  each_from p i j = same (all_below (λ k. i ≤ k → p (b k) ≡ true) (λ k. given (within i k) (passes (p (b k)))) j) (λ all k le lt. all k lt le) (λ all k lt le. all k le lt)

  a_word : (i j : ℕ) → Decided (IsWord b i j)
  a_word i j = same (both (below i j) (both (passes (is_name_start (b i))) (each_from is_name_byte (i + 1) j)))
      (λ h. record { some = h.0; first = h.1.0; others = h.1.1 }) (λ h. (h.some, (h.first, h.others)))

  a_mark : (sign : ℕ) (p : ℕ → Bool) (i j : ℕ) → Decided (IsMarked b sign p i j)
  a_mark sign p i j = same (both (below (i + 1) j) (both (equal (b i) sign) (each_from p (i + 1) j)))
      (λ h. record { some = h.0; first = h.1.0; others = h.1.1 }) (λ h. (h.some, (h.first, h.others)))

  no_end_inside : (i j : ℕ) → Decided ((k : ℕ) → i < k → k + 1 < j → (eqb (b k) (b i) || eqb (b k) 10) ≡ false)
  no_end_inside i j = same (all_below (λ k. i < k → k + 1 < j → (eqb (b k) (b i) || eqb (b k) 10) ≡ false)
      (λ k. given (below i k) (given (below (k + 1) j) (fails (eqb (b k) (b i) || eqb (b k) 10)))) j)
      (λ all k lt more. all k (omega (arith, more)) lt more) (λ all k less lt more. all k lt more)

  a_text : (i j : ℕ) → Decided (IsText b i j)
  a_text i j = same (both (below (i + 1) j) (both (passes (is_quote (b i))) (both (no_end_inside i j) (equal (b (j - 1)) (b i)))))
      (λ h. record { some = h.0; quote = h.1.0; inside = h.1.1.0; closed = h.1.1.1 }) (λ h. (h.some, (h.quote, (h.inside, h.closed))))

  going_on : (r : Radix) (i j : ℕ) → Decided ((k : ℕ) → i ≤ k → k < j → goes_on b r k ≡ true)
  going_on r i j = same (all_below (λ k. i ≤ k → goes_on b r k ≡ true) (λ k. given (within i k) (passes (goes_on b r k))) j)
      (λ all k le lt. all k lt le) (λ all k lt le. all k le lt)

  the_digits : (r : Radix) (i j : ℕ) → Decided (IsDigits b r i j)
  the_digits r i j = same (both (below i j) (both (passes (is_digit_of r (b i))) (both (going_on r i j) (passes (is_digit_of r (b (j - 1)))))))
      (λ h. record { some = h.0; first = h.1.0; each = h.1.1.0; last = h.1.1.1 }) (λ h. (h.some, (h.first, (h.each, h.last))))

  a_whole : (r : Radix) (s i j : ℕ) → Decided (IsWhole b r s i j)
  a_whole r s i j = same (both (one_of_table (prefixes r) i s) (the_digits r s j)) (λ h. record { prefix = h.0; digits = h.1 }) (λ h. (h.prefix, h.digits))

  -- a whole number whose value passes a test
  whole_that : (P : Radix → ℕ → Type 0) → ((r : Radix) (s : ℕ) → Decided (P r s)) → (i j : ℕ) → Decided ((r : Radix) × (s : ℕ) × IsWhole b r s i j × P r s)
  whole_that P d i j = same (some_radix (λ r. (s : ℕ) × (IsWhole b r s i j × P r s))
      (λ r. some_below (λ s. IsWhole b r s i j × P r s) (λ s. both (a_whole r s i j) (d r s)) j (λ s h. h.0.digits.some)))
      (λ h. (h.0, h.1.0, h.1.1.0, h.1.1.1)) (λ h. (h.0, (h.1, (h.2, h.3))))

  an_integer : (i j : ℕ) → Decided (IsInteger b i j)
  an_integer i j = whole_that (λ r s. number_of b (base_of r) s (j - s) < 2 ^ 64) (λ r s. below (number_of b (base_of r) s (j - s)) (2 ^ 64)) i j

  a_wide : (i j : ℕ) → Decided (IsWide b i j)
  a_wide i j = whole_that (λ r s. 2 ^ 64 ≤ number_of b (base_of r) s (j - s)) (λ r s. within (2 ^ 64) (number_of b (base_of r) s (j - s))) i j

  a_pointed : (p i j : ℕ) → Decided (IsPointed b p i j)
  a_pointed p i j = same (both (each_from is_digit i p) (both (within i p) (both (equal (b p) 46) (both (each_from is_digit (p + 1) j) (both (below p j) (below (i + 1) j))))))
      (λ h. record { before = h.0; ahead = h.1.0; point = h.1.1.0; behind = h.1.1.1.0; within = h.1.1.1.1.0; some = h.1.1.1.1.1 })
      (λ h. (h.before, (h.ahead, (h.point, (h.behind, (h.within, h.some))))))

  an_exponent : (s i j : ℕ) → Decided (IsExponent b s i j)
  an_exponent s i j = same (both (passes (is_exponent_sign (b i))) (both (one_of (equal s (i + 1)) (both (passes (is_sign (b (i + 1)))) (equal s (i + 2)))) (both (below s j) (each_from is_digit s j))))
      (λ h. record { head = h.0; start = h.1.0; some = h.1.1.0; digits = h.1.1.1 }) (λ h. (h.head, (h.start, (h.some, h.digits))))

  exponent_ahead : (s m j : ℕ) → IsExponent b s m j → m < j
  exponent_ahead s m j x = elim x.start [
    | inl f ↦ (let y : s < j = x.some in omega (arith, y, f))
    | inr f ↦ (let y : s < j = x.some in let z : s ≡ m + 2 = f.1 in omega (arith, y, z))
  ]

  -- something that ends at m, and an exponent behind it
  before_exponent : (P : ℕ → Type 0) → ((m : ℕ) → Decided (P m)) → (j : ℕ) → Decided ((m : ℕ) × ((s : ℕ) × (P m × IsExponent b s m j)))
  before_exponent P d j = some_below (λ m. (s : ℕ) × (P m × IsExponent b s m j))
      (λ m. some_below (λ s. P m × IsExponent b s m j) (λ s. both (d m) (an_exponent s m j)) j (λ s h. h.1.some)) j
      (λ m h. exponent_ahead h.0 m j h.1.1)

  pointed_with_exponent : (i j : ℕ) → Decided ((p : ℕ) × (m : ℕ) × (s : ℕ) × IsPointed b p i m × IsExponent b s m j)
  pointed_with_exponent i j = same (some_below (λ p. (m : ℕ) × ((s : ℕ) × (IsPointed b p i m × IsExponent b s m j)))
      (λ p. before_exponent (λ m. IsPointed b p i m) (λ m. a_pointed p i m) j) j pointed_ahead)
      (λ h. (h.0, h.1.0, h.1.1.0, h.1.1.1.0, h.1.1.1.1)) (λ h. (h.0, (h.1, (h.2, (h.3, h.4)))))
    where
      pointed_ahead : (p : ℕ) → ((m : ℕ) × ((s : ℕ) × (IsPointed b p i m × IsExponent b s m j))) → p < j
      pointed_ahead p (m, (s, (h, e))) = let x : p < m = h.within in let y : m < j = exponent_ahead s m j e in omega (arith, x, y)

  digits_with_exponent : (i j : ℕ) → Decided ((m : ℕ) × (s : ℕ) × (i < m) × EachFrom b is_digit i m × IsExponent b s m j)
  digits_with_exponent i j = same (before_exponent (λ m. (i < m) × EachFrom b is_digit i m) (λ m. both (below i m) (each_from is_digit i m)) j)
      (λ h. (h.0, h.1.0, h.1.1.0.0, h.1.1.0.1, h.1.1.1)) (λ h. (h.0, (h.1, ((h.2, h.3), h.4))))

  a_decimal : (i j : ℕ) → Decided (IsDecimal b i j)
  a_decimal i j = one_of (some_below (λ p. IsPointed b p i j) (λ p. a_pointed p i j) j (λ p h. h.within))
      (one_of (pointed_with_exponent i j) (digits_with_exponent i j))

  a_plain : (i j : ℕ) → Decided (IsPlain b i j)
  a_plain i j = one_of (same (some_radix (λ r. (s : ℕ) × IsWhole b r s i j) (λ r. some_below (λ s. IsWhole b r s i j) (λ s. a_whole r s i j) j (λ s h. h.digits.some)))
      (λ h. (h.0, h.1.0, h.1.1)) (λ h. (h.0, (h.1, h.2)))) (a_decimal i j)

  a_number_with : (t : List (List ℕ)) (i j : ℕ) → ((m : ℕ) → IsOneOf b t m j → m < j) → Decided ((m : ℕ) × IsPlain b i m × IsOneOf b t m j)
  a_number_with t i j ahead = same (some_below (λ m. IsPlain b i m × IsOneOf b t m j) (λ m. both (a_plain i m) (one_of_table t m j)) j (λ m h. ahead m h.1))
      (λ h. (h.0, h.1.0, h.1.1)) (λ h. (h.0, (h.1, h.2)))

  a_timing : (i j : ℕ) → Decided (IsTiming b i j)
  a_timing i j = a_number_with time_units i j (λ m h. (head_of_one b (λ c. true) time_units m j refl h).1)

  an_imaginary : (i j : ℕ) → Decided (IsImaginary b i j)
  an_imaginary i j = a_number_with imaginary_units i j (λ m h. (head_of_one b (λ c. true) imaginary_units m j refl h).1)

  a_token : (k : Kind) (i j : ℕ) → Decided (IsToken b k i j)
  a_token Name i j = same (both (a_word i j) (both (never (one_of_table reserved_words i j)) (never (one_of_table constants i j)))) (λ h. (h.0, h.1.0, h.1.1)) (λ h. (h.0, (h.1, h.2)))
  a_token Reserved i j = one_of_table reserved_words i j
  a_token Integer i j = an_integer i j
  a_token Wide i j = one_of (a_wide i j) (both (a_text i j) (passes (is_wide_text b i j)))
  a_token Decimal i j = a_decimal i j
  a_token Timing i j = a_timing i j
  a_token Imaginary i j = an_imaginary i j
  a_token Text i j = both (a_text i j) (fails (is_wide_text b i j))
  a_token Hardware i j = a_mark 36 is_digit i j
  a_token Hash i j = a_mark 35 is_letter i j
  a_token Symbol i j = one_of_table symbols i j
  a_token Constant i j = one_of_table constants i j
  a_token Euler i j = one_of_table euler_signs i j
  a_token End i j = inr (λ h. h)

  abbrev IsAmong : Kind → List Kind → Type 0
  IsAmong k [] = ⊥
  IsAmong k (q ∷ qs) = (k ≡ q) ⊎ IsAmong k qs

  abbrev kinds : List Kind
  kinds = Name ∷ Reserved ∷ Integer ∷ Wide ∷ Decimal ∷ Timing ∷ Imaginary ∷ Text ∷ Hardware ∷ Hash ∷ Symbol ∷ Constant ∷ Euler ∷ End ∷ []

  each_kind : (k : Kind) → IsAmong k kinds
  each_kind Name = inl refl
  each_kind Reserved = inr (inl refl)
  each_kind Integer = inr (inr (inl refl))
  each_kind Wide = inr (inr (inr (inl refl)))
  each_kind Decimal = inr (inr (inr (inr (inl refl))))
  each_kind Timing = inr (inr (inr (inr (inr (inl refl)))))
  each_kind Imaginary = inr (inr (inr (inr (inr (inr (inl refl))))))
  each_kind Text = inr (inr (inr (inr (inr (inr (inr (inl refl)))))))
  each_kind Hardware = inr (inr (inr (inr (inr (inr (inr (inr (inl refl))))))))
  each_kind Hash = inr (inr (inr (inr (inr (inr (inr (inr (inr (inl refl)))))))))
  each_kind Symbol = inr (inr (inr (inr (inr (inr (inr (inr (inr (inr (inl refl))))))))))
  each_kind Constant = inr (inr (inr (inr (inr (inr (inr (inr (inr (inr (inr (inl refl)))))))))))
  each_kind Euler = inr (inr (inr (inr (inr (inr (inr (inr (inr (inr (inr (inr (inl refl))))))))))))
  each_kind End = inr (inr (inr (inr (inr (inr (inr (inr (inr (inr (inr (inr (inr (inl refl)))))))))))))

  among : (i j : ℕ) (ks : List Kind) → ((k : Kind) × IsToken b k i j) ⊎ ((k : Kind) → IsAmong k ks → IsToken b k i j → ⊥)
  among i j [] = inr (λ k in_none h. in_none)
  among i j (q ∷ qs) = step (a_token q i j) (among i j qs)
    where
      step : Decided (IsToken b q i j) → ((k : Kind) × IsToken b k i j) ⊎ ((k : Kind) → IsAmong k qs → IsToken b k i j → ⊥)
          → ((k : Kind) × IsToken b k i j) ⊎ ((k : Kind) → IsAmong k (q ∷ qs) → IsToken b k i j → ⊥)
      step (inl h) rest = inl (q, h)
      step (inr not_so) (inl found) = inl found
      step (inr not_so) (inr none) = inr (λ k where_is h. elim where_is [ inl e ↦ not_so (subst (λ t. IsToken b t i j) e h) | inr later ↦ none k later h ])

  some_kind : (i j : ℕ) → ((k : Kind) × IsToken b k i j) ⊎ ((k : Kind) → IsToken b k i j → ⊥)
  some_kind i j = elim (among i j kinds) [ inl found ↦ inl found | inr none ↦ inr (λ k h. none k (each_kind k) h) ]

  -- a token that ends at n at most, and none longer that does; or none at all
  abbrev LongestUpTo : ℕ → ℕ → Type 0
  LongestUpTo n i = ((k : Kind) × (j : ℕ) × IsToken b k i j × ((q : Kind) (e : ℕ) → e ≤ n → IsToken b q i e → e ≤ j))
      ⊎ ((q : Kind) (e : ℕ) → e ≤ n → IsToken b q i e → ⊥)

  longest_up_to : (n i : ℕ) → LongestUpTo n i
  longest_up_to zero i = elim (some_kind i 0) [
    | inl found ↦ inl (found.0, 0, found.1, λ q e le h. le)
    | inr none ↦ inr (λ q e le h. none q (subst (λ t. IsToken b q i t) (omega (arith, le)) h))
  ]
  longest_up_to (suc n) i = step (some_kind i (suc n)) (longest_up_to n i)
    where
      step : ((k : Kind) × IsToken b k i (suc n)) ⊎ ((k : Kind) → IsToken b k i (suc n) → ⊥) → LongestUpTo n i → LongestUpTo (suc n) i
      step (inl found) rest = inl (found.0, suc n, found.1, λ q e le h. le)
      step (inr none) (inl (k, j, h, longest)) = inl (
        k,
        j,
        h,
        λ q e le g. elim (within e n) [
          | inl less ↦ longest q e less g
          | inr more ↦ absurd (none q (subst (λ t. IsToken b q i t) (last e le more) g))
        ],
      )
        where
          last : (e : ℕ) → e ≤ suc n → (e ≤ n → ⊥) → e ≡ suc n
          last e le more = elim (compare2 e n) [ inl less ↦ absurd (more less) | inr lt ↦ omega (arith, le, lt) ]
      step (inr none) (inr never_so) = inr (λ q e le g. elim (within e n) [
        | inl less ↦ never_so q e less g
        | inr more ↦ none q (subst (λ t. IsToken b q i t) (last e le more) g)
      ])
        where
          last : (e : ℕ) → e ≤ suc n → (e ≤ n → ⊥) → e ≡ suc n
          last e le more = elim (compare2 e n) [ inl less ↦ absurd (more less) | inr lt ↦ omega (arith, le, lt) ]

  -- at each place of a text some token is the longest, or none begins
  pub token_or_none : (end i : ℕ) → ((x : ℕ) → end ≤ x → b x ≡ 0) → i < end → ((k : Kind) × (j : ℕ) × LongestToken b k i j) ⊎ NoToken b i
  token_or_none end i z lt = elim (longest_up_to end i) [
    | inl found ↦ inl (found.0, found.1, record { token = found.2; longest = λ q e h. found.3 q e (token_within b q end i e z lt h) h })
    | inr none ↦ inr (λ q e h. none q e (token_within b q end i e z lt h) h)
  ]
