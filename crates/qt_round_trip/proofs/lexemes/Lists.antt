-- The lexemes and the lines of a list that gets one more at its end.
use Rattle.std.proofs.Common.{◌≡◌, List, [], ◌∷◌, ◌++◌, map, sym, ◌∙◌, ap, append_assoc}
use Rattle.std.proofs.lemmas.List.{append-nil}
use Rattle.qt_lexemes.specs.Lexemes.{Lexeme, each_behind, separated, joined}
use Rattle.qt_print.specs.Statements.{Line, all_lines}

-- a list that isn't empty
abbrev pub Filled : {A : Type 0} → List A → Type 0
Filled [] = ⊥
Filled (x ∷ xs) = Unit {0}

pub filled_push : {A : Type 0} (xs : List A) (x : A) → Filled (xs ++ x ∷ [])
filled_push [] x = tt
filled_push (y ∷ ys) x = tt

module _ {A : Type 0} (lexemes : A → List Lexeme) where
  each_push : (between : Lexeme) (xs : List A) (x : A) → each_behind between (map lexemes (xs ++ x ∷ [])) ≡ each_behind between (map lexemes xs) ++ (between ∷ lexemes x)
  each_push between [] x = ap (λ t. between ∷ t) (append-nil (lexemes x))
  each_push between (y ∷ ys) x =
      ap (λ t. between ∷ t) (ap (λ t. lexemes y ++ t) (each_push between ys x) ∙ sym (append_assoc (lexemes y) (each_behind between (map lexemes ys)) (between ∷ lexemes x)))

  pub separated_push : (between : Lexeme) (xs : List A) (x : A) → Filled xs → separated between (map lexemes (xs ++ x ∷ [])) ≡ separated between (map lexemes xs) ++ (between ∷ lexemes x)
  separated_push between [] x h = absurd h
  separated_push between (y ∷ ys) x h = ap (λ t. lexemes y ++ t) (each_push between ys x) ∙ sym (append_assoc (lexemes y) (each_behind between (map lexemes ys)) (between ∷ lexemes x))

  pub joined_push : (xs : List A) (x : A) → joined (map lexemes (xs ++ x ∷ [])) ≡ joined (map lexemes xs) ++ lexemes x
  joined_push [] x = append-nil (lexemes x)
  joined_push (y ∷ ys) x = ap (λ t. lexemes y ++ t) (joined_push ys x) ∙ sym (append_assoc (lexemes y) (joined (map lexemes ys)) (lexemes x))

module _ {A : Type 0} (lines : A → List Line) where
  pub lines_push : (xs : List A) (x : A) → all_lines (map lines (xs ++ x ∷ [])) ≡ all_lines (map lines xs) ++ lines x
  lines_push [] x = append-nil (lines x)
  lines_push (y ∷ ys) x = ap (λ t. lines y ++ t) (lines_push ys x) ∙ sym (append_assoc (lines y) (all_lines (map lines ys)) (lines x))
