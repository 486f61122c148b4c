-- The test that a grammar is read from the left by one token: no two words compete.
use Rattle.std.proofs.Common.{◌≡◌, ℕ, ◌⊎◌, inl, inr, Bool, true, false, ◌&&◌, ◌||◌, not, eqb, List, [], ◌∷◌, ◌++◌, refl, sym, subst, arith}
use Rattle.qt_terminals.specs.Alphabet.{code}
use Rattle.qt_terminals.specs.declared.terminal.Terminal.TheVariants as w
use Rattle.qt_grammar.specs.Sorts.{Sort, Name, any, unary, block, single, an_index, a_range, a_set, an_entry, in_sizeof, in_array, parameters, gate_block}
use Rattle.qt_grammar.specs.Form.{Form, one, operator, counted, here, empty, as_tree, then_, either, maybe, nearest, chain, named, member}
use Rattle.qt_grammar.specs.Lookahead.{first, nullable, joined, first_of, begins_expr, begins_statement}
use Rattle.qt_grammar.proofs.Sane.{Words, Apart}

abbrev pub In : List ℕ → Words
In ws n = member n ws ≡ true

abbrev pub apart : List ℕ → List ℕ → Bool
apart [] ys = true
apart (x ∷ xs) ys = not (member x ys) && apart xs ys

abbrev pub subset : List ℕ → List ℕ → Bool
subset [] ys = true
subset (x ∷ xs) ys = member x ys && subset xs ys

pub and_left : (a b : Bool) → (a && b) ≡ true → a ≡ true
and_left true b h = refl
and_left false b h = h

pub and_right : (a b : Bool) → (a && b) ≡ true → b ≡ true
and_right true b h = h
and_right false b h = absurd (cc h)

pub or_cases : (a b : Bool) → (a || b) ≡ true → (a ≡ true) ⊎ (b ≡ true)
or_cases true b h = inl refl
or_cases false b h = inr h

pub or_left : (a b : Bool) → a ≡ true → (a || b) ≡ true
or_left true b h = refl
or_left false b h = absurd (cc h)

pub or_right : (a b : Bool) → b ≡ true → (a || b) ≡ true
or_right true b h = refl
or_right false b h = h

pub not_true : (a : Bool) → not a ≡ true → a ≡ true → ⊥
not_true true h t = cc h
not_true false h t = cc t

pub eqb_same : (m n : ℕ) → eqb m n ≡ true → m ≡ n
eqb_same m n h = grind arith

pub apart_sound : (xs ys : List ℕ) → apart xs ys ≡ true → Apart (In xs) (In ys)
apart_sound [] ys h n a b = cc a
apart_sound (x ∷ xs) ys h n a b = elim (or_cases (eqb n x) (member n xs) a) [
  | inl e ↦ not_true (member x ys) (and_left (not (member x ys)) (apart xs ys) h) (subst (λ t. member t ys ≡ true) (eqb_same n x e) b)
  | inr t ↦ apart_sound xs ys (and_right (not (member x ys)) (apart xs ys) h) n t b
]

pub subset_sound : (xs ys : List ℕ) → subset xs ys ≡ true → (n : ℕ) → In xs n → In ys n
subset_sound [] ys h n a = absurd (cc a)
subset_sound (x ∷ xs) ys h n a = elim (or_cases (eqb n x) (member n xs) a) [
  | inl e ↦ subst (λ t. member t ys ≡ true) (sym (eqb_same n x e)) (and_left (member x ys) (subset xs ys) h)
  | inr t ↦ subset_sound xs ys (and_right (member x ys) (subset xs ys) h) n t
]

pub in_left : (xs ys : List ℕ) (n : ℕ) → In xs n → In (xs ++ ys) n
in_left [] ys n a = absurd (cc a)
in_left (x ∷ xs) ys n a = elim (or_cases (eqb n x) (member n xs) a) [
  | inl e ↦ or_left (eqb n x) (member n (xs ++ ys)) e
  | inr t ↦ or_right (eqb n x) (member n (xs ++ ys)) (in_left xs ys n t)
]

pub in_right : (xs ys : List ℕ) (n : ℕ) → In ys n → In (xs ++ ys) n
in_right [] ys n a = a
in_right (x ∷ xs) ys n a = or_right (eqb n x) (member n (xs ++ ys)) (in_right xs ys n a)

pub in_joined : (xs : List ℕ) (b : Bool) (ys : List ℕ) (n : ℕ) → In xs n ⊎ ((b ≡ true) × In ys n) → In (joined xs b ys) n
in_joined xs true ys n (inl a) = in_left xs ys n a
in_joined xs true ys n (inr a) = in_right xs ys n a.1
in_joined xs false ys n (inl a) = a
in_joined xs false ys n (inr a) = absurd (cc a.0)

pub joined_in : (xs : List ℕ) (b : Bool) (ys : List ℕ) (n : ℕ) → In (joined xs b ys) n → In xs n ⊎ ((b ≡ true) × In ys n)
joined_in xs false ys n a = inl a
joined_in xs true ys n a = elim (either_of xs ys n a) [ inl t ↦ inl t | inr t ↦ inr (refl, t) ]
  where
    either_of : (xs ys : List ℕ) (n : ℕ) → In (xs ++ ys) n → In xs n ⊎ In ys n
    either_of [] ys n a = inr a
    either_of (x ∷ xs) ys n a = elim (or_cases (eqb n x) (member n (xs ++ ys)) a) [
      | inl e ↦ inl (or_left (eqb n x) (member n xs) e)
      | inr t ↦ elim (either_of xs ys n t) [ inl u ↦ inl (or_right (eqb n x) (member n xs) u) | inr u ↦ inr u ]
    ]

-- ---- the words that a form may go on with after a tree, and the test

-- FOLLOW inside the form itself, of the forms that have a name; that it is theirs is tested
abbrev pub goes_on_expr : List ℕ
goes_on_expr = code w.LeftParen ∷ code w.LeftBracket ∷ code w.StarStar ∷ code w.Star ∷ code w.Slash ∷ code w.Percent ∷ code w.Plus ∷ code w.Minus
    ∷ code w.ShiftLeft ∷ code w.ShiftRight ∷ code w.Less ∷ code w.LessEqual ∷ code w.Greater ∷ code w.GreaterEqual ∷ code w.EqualEqual ∷ code w.NotEqual
    ∷ code w.And ∷ code w.Caret ∷ code w.Or ∷ code w.AndAnd ∷ code w.OrOr ∷ []

abbrev pub follow_of : Name → List ℕ
follow_of any = goes_on_expr
follow_of unary = code w.LeftParen ∷ code w.LeftBracket ∷ code w.StarStar ∷ []
follow_of block = begins_statement
follow_of single = []
follow_of an_index = code w.Colon ∷ begins_expr ++ goes_on_expr
follow_of a_range = code w.Colon ∷ begins_expr ++ goes_on_expr
follow_of a_set = code w.Comma ∷ goes_on_expr
follow_of an_entry = code w.Comma ∷ goes_on_expr
follow_of in_sizeof = code w.Comma ∷ goes_on_expr
follow_of in_array = code w.Comma ∷ goes_on_expr
follow_of parameters = code w.Comma ∷ []
follow_of gate_block = first_of gate_block

-- what an item of a chain begins with: its separator, or where there is none its operand
abbrev pub first_item : {s t : Sort} → Form s → Form t → List ℕ
first_item f g = joined (first g) (nullable g) (first f)

abbrev pub follow : {s : Sort} → Form s → List ℕ
follow (one ws) = []
follow (operator ws) = []
follow (counted f) = follow f
follow here = []
follow (empty x) = []
follow (as_tree k f) = follow f
follow (then_ k f g) = joined (follow g) (nullable g) (follow f)
follow (either f g) = follow f ++ follow g
follow (maybe f) = follow f ++ first f
follow (nearest ws f) = follow f
follow (chain a b f g) = follow f ++ first_item f g
follow (named n) = follow_of n

abbrev pub good : {s : Sort} → Form s → Bool
good (one ws) = true
good (operator ws) = true
good (counted f) = good f
good here = true
good (empty x) = true
good (as_tree k f) = good f
good (then_ k f g) = (good f && good g) && apart (follow f) (first g)
good (either f g) = (good f && good g) && ((not (nullable f) && not (nullable g)) && apart (first f) (first g))
good (maybe f) = good f && not (nullable f)
good (nearest ws f) = (good f && not (nullable f)) && (subset (first f) ws && subset ws (first f))
good (chain a b f g) = (good f && good g) && ((not (nullable f) && not (member 0 (first_item f g))) && (apart (follow f) (first_item f g) && apart (follow g) (first f)))
good (named n) = true

-- the first token of a form stands in it itself, and not in a form with a name
abbrev pub direct : {s : Sort} → Form s → Bool
direct (one ws) = true
direct (operator ws) = true
direct (counted f) = direct f
direct here = true
direct (empty x) = true
direct (as_tree k f) = direct f
direct (then_ k f g) = direct f && (not (nullable f) || direct g)
direct (either f g) = direct f && direct g
direct (maybe f) = direct f
direct (nearest ws f) = direct f && subset ws (first f)
direct (chain a b f g) = direct f && not (nullable f)
direct (named n) = false
