-- Putting lexemes on a page.
use Rattle.std.proofs.Common.{◌≡◌, ℕ, suc, ◌+◌, ◌<◌, Bool, true, false, List, [], ◌∷◌, ◌++◌, map, drop, get_or, add-one, drop-cons, length, refl, sym, ◌∙◌, ap, subst}
use Rattle.qt_lexemes.specs.Lexemes.{Lexeme, joined, each_behind, separated}
use Rattle.qt_lexemes.specs.Page.{Sheet, IsKept, sheet_of, put_on}
use Rattle.qt_lexemes.specs.declared.page.Page.{Page}
use Rattle.qt_print.specs.Page.{puts, Puts, unless_first}

pub puts_both : (sheet : Sheet) (xs ys : List Lexeme) → puts sheet (xs ++ ys) ≡ puts (puts sheet xs) ys
puts_both sheet [] ys = refl
puts_both sheet (x ∷ xs) ys = puts_both (put_on sheet x) xs ys

-- what is still to come of parts with a lexeme between: behind nothing, or behind a part
abbrev pub still_separated : Bool → Lexeme → List (List Lexeme) → List Lexeme
still_separated true between parts = separated between parts
still_separated false between parts = each_behind between parts

-- what of a whole is still to be put, where a part of it stands on the page
abbrev pub Left : Page → List Lexeme → Page → List Lexeme → Type 0
Left start whole page rest = IsKept page → IsKept start × (puts (sheet_of page) rest ≡ puts (sheet_of start) whole)

put_more : (start page after : Page) (whole part rest : List Lexeme) → Puts page part after → Left start whole page (part ++ rest) → Left start whole after rest
put_more start page after whole part rest put left kept =
    let (kept_page, put_is) = put kept in
    let (kept_start, left_is) = left kept_page in
    (kept_start, ap (λ s. puts s rest) put_is ∙ (sym (puts_both (sheet_of page) part rest) ∙ left_is))

both : (page middle after : Page) (xs ys : List Lexeme) → Puts page xs middle → Puts middle ys after → Puts page (xs ++ ys) after
both page middle after xs ys first second kept =
    let (kept_middle, second_is) = second kept in
    let (kept_page, first_is) = first kept_middle in
    (kept_page, second_is ∙ (ap (λ s. puts s ys) first_is ∙ sym (puts_both (sheet_of page) xs ys)))

module _ {A : Type 0} (lexemes : A → List Lexeme) where
  drops : (xs : List A) (i : ℕ) (x : A) → i < length xs → x ≡ get_or xs i x → map lexemes (drop i xs) ≡ lexemes x ∷ map lexemes (drop (i + 1) xs)
  drops xs i x lt e = rw (add-one, drop-cons xs i x) (ap (λ t. lexemes t ∷ map lexemes (drop (suc i) xs)) (sym e))

  -- a turn of a loop that puts parts one after another
  pub joined_turn : (start page after : Page) (whole : List Lexeme) (xs : List A) (i : ℕ) (x : A) → i < length xs → x ≡ get_or xs i x → Puts page (lexemes x) after
      → Left start whole page (joined (map lexemes (drop i xs))) → Left start whole after (joined (map lexemes (drop (i + 1) xs)))
  joined_turn start page after whole xs i x lt e put left =
      put_more start page after whole (lexemes x) (joined (map lexemes (drop (i + 1) xs))) put (subst (λ t. Left start whole page (joined t)) (drops xs i x lt e) left)

  -- a turn of a loop that puts parts each behind a lexeme
  pub behind_turn : (between : Lexeme) (start page middle after : Page) (whole : List Lexeme) (xs : List A) (i : ℕ) (x : A) → i < length xs → x ≡ get_or xs i x → Puts page (between ∷ []) middle → Puts middle (lexemes x) after
      → Left start whole page (each_behind between (map lexemes (drop i xs))) → Left start whole after (each_behind between (map lexemes (drop (i + 1) xs)))
  behind_turn between start page middle after whole xs i x lt e first put left =
      put_more start page after whole (between ∷ lexemes x) (each_behind between (map lexemes (drop (i + 1) xs))) (both page middle after (between ∷ []) (lexemes x) first put)
      (subst (λ t. Left start whole page (each_behind between t)) (drops xs i x lt e) left)

  -- a turn of a loop that puts parts with a lexeme between: the first of them, or a later one behind that lexeme
  pub separated_turn : (between : Lexeme) (first : Bool) (start page middle after : Page) (whole : List Lexeme) (xs : List A) (i : ℕ) (x : A) → i < length xs → x ≡ get_or xs i x → Puts page (unless_first first between) middle → Puts middle (lexemes x) after
      → Left start whole page (still_separated first between (map lexemes (drop i xs))) → Left start whole after (each_behind between (map lexemes (drop (i + 1) xs)))
  separated_turn between true start page middle after whole xs i x lt e none put left =
      put_more start page after whole (lexemes x) (each_behind between (map lexemes (drop (i + 1) xs))) (both page middle after [] (lexemes x) none put)
      (subst (λ t. Left start whole page (separated between t)) (drops xs i x lt e) left)
  separated_turn between false start page middle after whole xs i x lt e first put left = behind_turn between start page middle after whole xs i x lt e first put left
