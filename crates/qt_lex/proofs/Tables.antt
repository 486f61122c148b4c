-- Tests, runs of bytes, and tables of texts.
use Rattle.std.proofs.Common.{◌≡◌, ℕ, ◌+◌, ◌≤◌, ◌<◌, ◌⊎◌, inl, inr, max, Bool, true, false, not, ◌&&◌, ◌||◌, eqb, cond, List, [], ◌∷◌, length, refl, ◌∙◌, ap, subst, arith}
use Rattle.qt_lex.specs.Bytes.{is_name_start, is_name_byte, stands, IsOneOf, longest_in, EachFrom}

pub and_left : (a b : Bool) → (a && b) ≡ true → a ≡ true
and_left true b h = refl
and_left false b h = h

pub and_right : (a b : Bool) → (a && b) ≡ true → b ≡ true
and_right true b h = h
and_right false b h = absurd (cc h)

pub or_left : (a b : Bool) → a ≡ true → (a || b) ≡ true
or_left true b h = refl
or_left false b h = absurd (cc h)

pub or_right : (a b : Bool) → b ≡ true → (a || b) ≡ true
or_right true b h = refl
or_right false b h = h

pub or_cases : (a b : Bool) → (a || b) ≡ true → (a ≡ true) ⊎ (b ≡ true)
or_cases true b h = inl refl
or_cases false b h = inr h

pub or_no_left : (a b : Bool) → (a || b) ≡ false → a ≡ false
or_no_left true b h = h
or_no_left false b h = refl

pub or_no_right : (a b : Bool) → (a || b) ≡ false → b ≡ false
or_no_right true b h = absurd (cc h)
or_no_right false b h = h

pub not_true : (a : Bool) → (a ≡ true → ⊥) → a ≡ false
not_true true h = absurd (h refl)
not_true false h = refl

pub not_false : (a : Bool) → not a ≡ true → a ≡ false
not_false true h = cc h
not_false false h = refl

pub eqb_same : (m n : ℕ) → eqb m n ≡ true → m ≡ n
eqb_same m n h = grind arith

pub compare : (m n : ℕ) → (m < n) ⊎ ((m ≡ n) ⊎ (n < m))
compare m n = grind arith

pub compare2 : (m n : ℕ) → (m ≤ n) ⊎ (n < m)
compare2 m n = grind arith

-- each text of a table has a first byte, and it is of this kind
abbrev pub heads_are : (ℕ → Bool) → List (List ℕ) → Bool
heads_are p [] = true
heads_are p ([] ∷ xs) = false
heads_are p ((y ∷ ys) ∷ xs) = p y && heads_are p xs

abbrev pub all_are : (ℕ → Bool) → List ℕ → Bool
all_are p [] = true
all_are p (y ∷ ys) = p y && all_are p ys

-- each text of a table that may begin a name is a name
abbrev pub words_are : List (List ℕ) → Bool
words_are [] = true
words_are ([] ∷ xs) = false
words_are ((y ∷ ys) ∷ xs) = (not (is_name_start y) || all_are is_name_byte ys) && words_are xs

module _ (b : ℕ → ℕ) where
  pub head_of_one : (p : ℕ → Bool) (t : List (List ℕ)) (i j : ℕ) → heads_are p t ≡ true → IsOneOf b t i j → (p (b i) ≡ true) × (i < j)
  head_of_one p [] i j f h = absurd h
  head_of_one p ([] ∷ xs) i j f h = absurd (cc f)
  head_of_one p ((y ∷ ys) ∷ xs) i j f (inl h) =
      let e : b i ≡ y = eqb_same (b i) y (and_left _ (stands b ys (i + 1)) h.0) in
      (ap p e ∙ and_left (p y) (heads_are p xs) f, omega (arith, h.1))
  head_of_one p ((y ∷ ys) ∷ xs) i j f (inr h) = head_of_one p xs i j (and_right (p y) (heads_are p xs) f) h

  pub stands_each : (p : ℕ → Bool) (ys : List ℕ) (i k : ℕ) → all_are p ys ≡ true → stands b ys i ≡ true → i ≤ k → k < i + length ys → p (b k) ≡ true
  stands_each p [] i k a h le lt = absurd (omega (arith, le, lt))
  stands_each p (y ∷ ys) i k a h le lt = elim (compare i k) [
    | inl more ↦ stands_each p ys (i + 1) k (and_right (p y) (all_are p ys) a) (and_right (eqb (b i) y) (stands b ys (i + 1)) h) (omega (arith, more)) (omega (arith, lt))
    | inr t ↦ elim t [
      | inl e ↦ let f : b i ≡ y = eqb_same (b i) y (and_left _ (stands b ys (i + 1)) h) in
          subst (λ t. p (b t) ≡ true) e (ap p f ∙ and_left (p y) (all_are p ys) a)
      | inr less ↦ absurd (omega (arith, le, less))
    ]
  ]

  pub word_of_one : (t : List (List ℕ)) (i j : ℕ) → words_are t ≡ true → is_name_start (b i) ≡ true → IsOneOf b t i j → EachFrom b is_name_byte (i + 1) j
  word_of_one [] i j f s h = absurd h
  word_of_one ([] ∷ xs) i j f s h = absurd (cc f)
  word_of_one ((y ∷ ys) ∷ xs) i j f s (inl h) = λ k le lt.
      let e : b i ≡ y = eqb_same (b i) y (and_left _ (stands b ys (i + 1)) h.0) in
      let st : is_name_start y ≡ true = subst (λ t. is_name_start t ≡ true) e s in
      let both : (not (is_name_start y) || all_are is_name_byte ys) ≡ true = and_left _ (words_are xs) f in
      let a : all_are is_name_byte ys ≡ true = elim (or_cases (not (is_name_start y)) (all_are is_name_byte ys) both) [
        | inl n ↦ absurd (let z : is_name_start y ≡ false = not_false _ n in cc (z, st))
        | inr a ↦ a
      ] in
      stands_each is_name_byte ys (i + 1) k a (and_right (eqb (b i) y) (stands b ys (i + 1)) h.0) le (omega (arith, lt, h.1))
  word_of_one ((y ∷ ys) ∷ xs) i j f s (inr h) = word_of_one xs i j (and_right (not (is_name_start y) || all_are is_name_byte ys) (words_are xs) f) s h

  pub one_of_le : (t : List (List ℕ)) (i j : ℕ) → IsOneOf b t i j → j ≤ i + longest_in b t i
  one_of_le [] i j h = absurd h
  one_of_le (x ∷ xs) i j (inl h) =
      let e : cond (stands b x i) (length x) 0 ≡ length x = ap (λ t. cond t (length x) 0) h.0 in
      rw e (omega (arith, h.1))
  one_of_le (x ∷ xs) i j (inr h) = let e : j ≤ i + longest_in b xs i = one_of_le xs i j h in omega (arith, e)

  one_of_is : (t : List (List ℕ)) (i : ℕ) → (longest_in b t i ≡ 0) ⊎ IsOneOf b t i (i + longest_in b t i)
  one_of_is [] i = inl refl
  one_of_is (x ∷ xs) i = at_test (stands b x i) refl (one_of_is xs i)
    where
      larger : (m n : ℕ) → (max m n ≡ m) ⊎ (max m n ≡ n)
      larger m n = grind arith

      at_test : (v : Bool) → stands b x i ≡ v → (longest_in b xs i ≡ 0) ⊎ IsOneOf b xs i (i + longest_in b xs i)
          → (max (cond v (length x) 0) (longest_in b xs i) ≡ 0) ⊎ (((stands b x i ≡ true) × (i + max (cond v (length x) 0) (longest_in b xs i) ≡ i + length x)) ⊎ IsOneOf b xs i (i + max (cond v (length x) 0) (longest_in b xs i)))
      at_test true e (inl z) = inr (inl (e, omega (arith, z)))
      at_test true e (inr z) = elim (larger (length x) (longest_in b xs i)) [
        | inl g ↦ inr (inl (e, ap (λ n. i + n) g))
        | inr g ↦ inr (inr (rw g z))
      ]
      at_test false e (inl z) = inl (omega (arith, z))
      at_test false e (inr z) = let g : max 0 (longest_in b xs i) ≡ longest_in b xs i = omega arith in inr (inr (rw g z))

  -- where the longest has some length, it stands there
  pub longest_stands : (t : List (List ℕ)) (i n j : ℕ) → n ≡ longest_in b t i → 0 < n → j ≡ i + n → IsOneOf b t i j
  longest_stands t i n j e lt at = elim (one_of_is t i) [
    | inl z ↦ absurd (omega (arith, z, e, lt))
    | inr h ↦ let f : i + longest_in b t i ≡ j = omega (arith, e, at) in subst (λ t'. IsOneOf b t i t') f h
  ]

  pub longest_bounds : (t : List (List ℕ)) (i n j k : ℕ) → n ≡ longest_in b t i → j ≡ i + n → IsOneOf b t i k → k ≤ j
  longest_bounds t i n j k e at h = let le : k ≤ i + longest_in b t i = one_of_le t i k h in omega (arith, le, e, at)

  -- a run of one kind of bytes isn't longer than up to the first byte of another kind
  pub run_ends : (p : ℕ → Bool) (i j k : ℕ) → i ≤ j → p (b j) ≡ false → EachFrom b p i k → k ≤ j
  run_ends p i j k h e f = elim (compare2 k j) [ inl le ↦ le | inr lt ↦ absurd (let g : p (b j) ≡ true = f j h lt in cc (g, e)) ]

  pub run_same : (p : ℕ → Bool) (i j k : ℕ) → i ≤ j → i ≤ k → EachFrom b p i j → EachFrom b p i k → p (b j) ≡ false → p (b k) ≡ false → k ≡ j
  run_same p i j k h g f f' e e' =
      let x : k ≤ j = run_ends p i j k h e f' in let y : j ≤ k = run_ends p i k j g e' f in omega (arith, x, y)
