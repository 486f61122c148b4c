-- Lists of what was read in turn.
use Rattle.std.specs.Prelude.{◌≡◌, ◌≢◌, ℕ, ◌++◌, List, [], ◌∷◌, Result, Ok, Err}
use Rattle.qt_grammar.specs.declared.refusal.Refusal.{Refusal}
use Rattle.qt_grammar.specs.declared.refusal.Refusal.TheVariants.{OutOfMemory}

-- a list of what was read alone, and the place behind it
abbrev pub Begins : {A : Type 0} → Result (A × ℕ) Refusal → Result (List A × ℕ) Refusal → Type 0
Begins {A} found (Ok read) = (x : A) × ((found ≡ Ok (x, read.1)) × (read.0 ≡ x ∷ []))
Begins found (Err e) = e ≢ OutOfMemory → found ≡ Err e

-- what was read, at the end of a list, and the place behind it
abbrev pub Appends : {A : Type 0} → List A → Result (A × ℕ) Refusal → List A → Result ℕ Refusal → Type 0
Appends {A} before found after (Ok behind) = (x : A) × ((found ≡ Ok (x, behind)) × (after ≡ before ++ x ∷ []))
Appends before found after (Err e) = e ≢ OutOfMemory → found ≡ Err e
