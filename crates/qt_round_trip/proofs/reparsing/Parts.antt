-- One or more parts that have lines of their own: the statements of a body, what stands in a gate's body, the items of a program.
use Rattle.std.proofs.Common.{◌≡◌, ℕ, List, [], ◌∷◌, ◌++◌, map, Option, refl, sym, ◌∙◌, ap, subst}
use Rattle.std.proofs.lemmas.List.{append-nil}
use Rattle.qt_grammar.specs.Sorts.{Sort, Value, several}
use Rattle.qt_grammar.specs.Form.{Form}
use Rattle.qt_grammar.specs.Language.{some, listed, or_none}
use Rattle.qt_lexemes.specs.Lexemes.{Lexeme}
use Rattle.qt_print.specs.Statements.{Line, all_lines}
use Rattle.qt_round_trip.proofs.lexemes.Written.{lexemes_of, Written}
use Rattle.qt_round_trip.proofs.lexemes.Lists.{lines_push}
use Rattle.qt_round_trip.proofs.reparsing.Plain.{lexemes_both}
use Rattle.qt_round_trip.proofs.reparsing.Setting.{Setting, Reader}
use Rattle.qt_round_trip.proofs.reparsing.Forms.{form-empty, form-as, form-perhaps, form-chain}
use Rattle.qt_round_trip.proofs.reparsing.Sentences.{lexemes_of_both}

module _ {A B : Type 0} (lines : A → List Line) (bare : A → B) where
  -- the lexemes of all parts
  abbrev pub parts_lexemes : List A → List Lexeme
  parts_lexemes all = lexemes_of (all_lines (map lines all))

  parts_push : (xs : List A) (x : A) → parts_lexemes (xs ++ x ∷ []) ≡ parts_lexemes xs ++ lexemes_of (lines x)
  parts_push xs x = ap lexemes_of (lines_push lines xs x) ∙ lexemes_of_both (all_lines (map lines xs)) (lines x)

  bare_push : (xs : List A) (x : A) → map bare (xs ++ x ∷ []) ≡ map bare xs ++ bare x ∷ []
  bare_push [] x = refl
  bare_push (y ∷ ys) x = ap (λ t. bare y ∷ t) (bare_push ys x)

pub one_part : {A : Type 0} (lines : A → List Line) (x : A) → lexemes_of (all_lines (map lines (x ∷ []))) ≡ lexemes_of (lines x)
one_part lines x = ap lexemes_of (append-nil (lines x))

module _ {s : Setting} {outer : Option ℕ} {t : Sort} {f : Form t} {N : ℕ → Type 0} {B : Type 0} where
  pub form-parts : (lines : Value t → List Line) (bare : Value t → B) → Reader s outer f f (λ x l. lexemes_of (lines x) ≡ l) (λ x y. bare x ≡ bare y) N
      → ((x : Value t) (i j : ℕ) → Written s.streams.new (lexemes_of (lines x)) i j → N j → N i)
      → Reader s outer (some {s = t} f) (some {s = t} f) (λ xs l. lexemes_of (all_lines (map lines xs)) ≡ l) (λ xs ys. map bare xs ≡ map bare ys) N
  form-parts lines bare a n = form-chain a form-empty (λ x. x ∷ []) (λ xs c x. xs ++ x ∷ []) (λ xs l. lexemes_of (all_lines (map lines xs)) ≡ l) (λ xs ys. map bare xs ≡ map bare ys)
      (λ x l h. one_part lines x ∙ h)
      (λ xs y x l m k h g i. parts_push lines bare xs x ∙ lexemes_both (lexemes_of (all_lines (map lines xs))) (lexemes_of (lines x)) l (m ++ k) h (lexemes_both [] (lexemes_of (lines x)) m k g i))
      (λ x x' same. ap (λ t. t ∷ []) same)
      (λ xs xs' y y' x x' same alike like. bare_push lines bare xs x ∙ (ap (λ t. t ++ bare x ∷ []) same ∙ (ap (λ t. map bare xs' ++ t ∷ []) like ∙ sym (bare_push lines bare xs' x'))))
      (λ y x m k h g i j has next. n x i j (subst (λ l. Written s.streams.new l i j) (sym (lexemes_both [] (lexemes_of (lines x)) m k h g)) has) next)

module _ {s : Setting} {outer : Option ℕ} {t : Sort} {f : Form (several t)} {N : ℕ → Type 0} {B : Type 0} where
  -- parts, or nothing for the empty list
  pub form-parts_or_none : (lines : Value t → List Line) (bare : Value t → B) → Reader s outer f f (λ xs l. lexemes_of (all_lines (map lines xs)) ≡ l) (λ xs ys. map bare xs ≡ map bare ys) N
      → Reader s outer (or_none {s = t} f) (or_none {s = t} f) (λ xs l. lexemes_of (all_lines (map lines xs)) ≡ l) (λ xs ys. map bare xs ≡ map bare ys) N
  form-parts_or_none lines bare a = form-as (form-perhaps a (λ o l. lexemes_of (all_lines (map lines (listed o))) ≡ l) (λ x y. map bare (listed x) ≡ map bare (listed y)) refl (λ x l h. h) refl (λ x y same. same))
      listed (λ xs l. lexemes_of (all_lines (map lines xs)) ≡ l) (λ xs ys. map bare xs ≡ map bare ys) (λ o l h. h) (λ x y same. same)
