-- Lists of two items, and words that ask for nothing.
use Rattle.std.proofs.Common.{◌≡◌, ℕ, ◌<◌, ◌≤◌, inl, inr, List, [], ◌∷◌, length, get_or, sym, ap, ◌∙◌, arith}
use Rattle.qt_words.specs.declared.request.Mode.TheVariants.{Run, Format}
use Rattle.qt_words.specs.Words.{IsMode, AreServed}
use Rattle.qt_words.specs.Requests.{IsNoMode}

pub two_items : {A : Type 0} (xs : List A) (a b : A) → 2 ≤ length xs → length xs < 3
    → a ≡ get_or xs 0 a → b ≡ get_or xs 1 b → xs ≡ a ∷ b ∷ []
two_items [] a b h k e f = absurd (omega arith)
two_items (x ∷ []) a b h k e f = absurd (omega arith)
two_items (x ∷ y ∷ []) a b h k e f = ap (λ t. t ∷ y ∷ []) (sym e) ∙ ap (λ t. a ∷ t ∷ []) (sym f)
two_items (x ∷ y ∷ z ∷ zs) a b h k e f = absurd (omega arith)

-- two words of which the first is no mode ask for nothing
pub no_service : (words : List (List ℕ)) (mode name : List ℕ) → words ≡ mode ∷ name ∷ [] → IsNoMode mode → ¬ AreServed words
no_service words mode name two none served =
    let same : served.0 ≡ mode = first_same (sym served.2 ∙ two) in
    is_none served.3 same
  where
    first_same : {a b c d : List ℕ} → a ∷ b ∷ [] ≡ c ∷ d ∷ [] → a ≡ c
    first_same e = cc

    is_none : {m : List ℕ} → IsMode m → m ≡ mode → ⊥
    is_none (inl run) e = none Run (sym e ∙ run)
    is_none (inr format) e = none Format (sym e ∙ format)
