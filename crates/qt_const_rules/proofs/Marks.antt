-- What the map of the last places says, in the words of lists.
use Rattle.std.proofs.Common.{◌≡◌, ℕ, nat_eq, Bool, true, false, cond, List, [], ◌∷◌, ◌++◌, Option, Some, None, is_some, string_bytes, refl, sym, ap, ◌∙◌, true≢false}
use Rattle.std.specs.Cmp.Lexicographic.{pointwise, nat_list_eq_equiv}
use Rattle.std.specs.declared.string.String.{String}
use Rattle.std.specs.Map.{lookup, set_value}
use Rattle.std.proofs.lemmas.List.{map-append}
use Rattle.qt_const_rules.specs.Latest.{Mark, Name, is_marked, mark_of, marks_of, place_in}

unfoldable pub said : Option (Option ℕ) → Option ℕ
said None = None
said (Some place) = place

pub place_in-new : (marks : List Mark) (name other : Name) → place_in (marks ++ (name, None) ∷ []) other ≡ place_in marks other
unfolding place_in
place_in-new [] name other = by (pointwise nat_eq other name)
  where
    none : Option ℕ
    none = None

    by : (b : Bool) → cond b none none ≡ none
    by true = refl
    by false = refl
place_in-new (mark ∷ marks) name other = ap (λ rest. cond (pointwise nat_eq other mark.0) mark.1 rest) (place_in-new marks name other)

pub is_marked-new : (marks : List Mark) (name : Name) (place : Option ℕ) → is_marked (marks ++ (name, place) ∷ []) name ≡ true
unfolding is_marked
is_marked-new [] name place = ap (λ b. cond b true false) (nat_list_eq_equiv.refl name)
is_marked-new (mark ∷ marks) name place = ap (λ rest. cond (pointwise nat_eq name mark.0) true rest) (is_marked-new marks name place) ∙ by (pointwise nat_eq name mark.0)
  where
    by : (b : Bool) → cond b true true ≡ true
    by true = refl
    by false = refl

module _ {Z : Type 0} where
  pub lookup_place : (name : Name) (pairs : List (String Z × Option ℕ)) → said (lookup (λ key. pointwise nat_eq name (string_bytes key)) pairs) ≡ place_in (marks_of pairs) name
  unfolding marks_of place_in said
  lookup_place name [] = refl
  lookup_place name (pair ∷ pairs) = by (pointwise nat_eq name (string_bytes pair.0)) (lookup_place name pairs)
    where
      by : (b : Bool) → said (lookup (λ key. pointwise nat_eq name (string_bytes key)) pairs) ≡ place_in (marks_of pairs) name → said (cond b (Some pair.1) (lookup (λ key. pointwise nat_eq name (string_bytes key)) pairs)) ≡ cond b pair.1 (place_in (marks_of pairs) name)
      by true later = refl
      by false later = later

  pub lookup_marked : (name : Name) (pairs : List (String Z × Option ℕ)) → is_some (lookup (λ key. pointwise nat_eq name (string_bytes key)) pairs) ≡ is_marked (marks_of pairs) name
  unfolding marks_of is_marked
  lookup_marked name [] = refl
  lookup_marked name (pair ∷ pairs) = by (pointwise nat_eq name (string_bytes pair.0)) (lookup_marked name pairs)
    where
      by : (b : Bool) → is_some (lookup (λ key. pointwise nat_eq name (string_bytes key)) pairs) ≡ is_marked (marks_of pairs) name → is_some (cond b (Some pair.1) (lookup (λ key. pointwise nat_eq name (string_bytes key)) pairs)) ≡ cond b true (is_marked (marks_of pairs) name)
      by true later = refl
      by false later = later

  pub marks_of-push : (pairs : List (String Z × Option ℕ)) (pair : String Z × Option ℕ) → marks_of (pairs ++ pair ∷ []) ≡ marks_of pairs ++ mark_of pair ∷ []
  unfolding marks_of
  marks_of-push pairs pair = map-append mark_of pairs (pair ∷ [])

  -- a place that is written stands under its name and no other
  pub set_place : (name other : Name) (place : Option ℕ) (pairs : List (String Z × Option ℕ)) → is_marked (marks_of pairs) name ≡ true
      → place_in (marks_of (set_value (λ key. pointwise nat_eq name (string_bytes key)) pairs place)) other ≡ cond (pointwise nat_eq name other) place (place_in (marks_of pairs) other)
  unfolding marks_of place_in is_marked
  set_place name other place [] marked = absurd (true≢false (sym marked))
  set_place name other place (pair ∷ pairs) marked = by (pointwise nat_eq name (string_bytes pair.0)) refl marked (set_place name other place pairs)
    where
      key : Name
      key = string_bytes pair.0

      rest : Option ℕ
      rest = place_in (marks_of pairs) other

      here : (b : Bool) → pointwise nat_eq other key ≡ b → pointwise nat_eq name other ≡ b → cond (pointwise nat_eq other key) place rest ≡ cond (pointwise nat_eq name other) place (cond (pointwise nat_eq other key) pair.1 rest)
      here true a b = ap (λ c. cond c place rest) a ∙ sym (ap (λ c. cond c place (cond (pointwise nat_eq other key) pair.1 rest)) b)
      here false a b = ap (λ c. cond c place rest) a ∙ sym (ap (λ c. cond c place (cond (pointwise nat_eq other key) pair.1 rest)) b ∙ ap (λ c. cond c pair.1 rest) a)

      apart : (b : Bool) → pointwise nat_eq name other ≡ b → pointwise nat_eq name key ≡ false → cond (pointwise nat_eq other key) pair.1 (cond (pointwise nat_eq name other) place rest) ≡ cond (pointwise nat_eq name other) place (cond (pointwise nat_eq other key) pair.1 rest)
      apart true b apart_is =
          let o : pointwise nat_eq other key ≡ false = sym (nat_list_eq_equiv.congr name other key b) ∙ apart_is in
          ap (λ c. cond c pair.1 (cond (pointwise nat_eq name other) place rest)) o ∙ ap (λ c. cond c place rest) b ∙ sym (ap (λ c. cond c place (cond (pointwise nat_eq other key) pair.1 rest)) b)
      apart false b apart_is =
          ap (λ r. cond (pointwise nat_eq other key) pair.1 r) (ap (λ c. cond c place rest) b) ∙ sym (ap (λ c. cond c place (cond (pointwise nat_eq other key) pair.1 rest)) b)

      by : (b : Bool) → pointwise nat_eq name key ≡ b → cond b true (is_marked (marks_of pairs) name) ≡ true
          → (is_marked (marks_of pairs) name ≡ true → place_in (marks_of (set_value (λ k. pointwise nat_eq name (string_bytes k)) pairs place)) other ≡ cond (pointwise nat_eq name other) place rest)
          → place_in (marks_of (cond b ((pair.0, place) ∷ pairs) (pair ∷ set_value (λ k. pointwise nat_eq name (string_bytes k)) pairs place))) other ≡ cond (pointwise nat_eq name other) place (cond (pointwise nat_eq other key) pair.1 rest)
      by true is held later = here (pointwise nat_eq name other) (nat_list_eq_equiv.symm other key ∙ sym (nat_list_eq_equiv.congr name key other is)) refl
      by false is held later = ap (λ r. cond (pointwise nat_eq other key) pair.1 r) (later held) ∙ apart (pointwise nat_eq name other) refl is
