-- What reading a form from the left answers: a tree and the place behind it, or the place where it stops.
use Rattle.std.specs.Prelude.{◌≡◌, ◌≢◌, ℕ, zero, suc, Bool, if◌then◌else◌, Result, Ok, Err}
use Rattle.qt_grammar.specs.declared.refusal.Refusal.{Refusal}
use Rattle.qt_grammar.specs.declared.refusal.Refusal.TheVariants.{OutOfMemory}

abbrev pub Outcome : Type 0 → Type 0
Outcome A = Result (A × ℕ) Refusal

abbrev pub and_then : {A B : Type 0} → Outcome A → (A → ℕ → Outcome B) → Outcome B
and_then (Ok p) f = f p.0 p.1
and_then (Err e) f = Err e

-- goes on with items as long as the next token begins one
abbrev pub more_of : {B C : Type 0} → (ℕ → Bool) → (C → B → C) → (ℕ → Outcome B) → ℕ → C → ℕ → Outcome C
more_of begins step item zero c i = Ok (c, i)
more_of begins step item (suc n) c i = if begins i then and_then (item i) (λ y m. more_of begins step item n (step c y) m) else Ok (c, i)

-- a function answers this outcome, unless memory runs out
abbrev pub Says : {A : Type 0} → Outcome A → Result (A × ℕ) Refusal → Type 0
Says out (Ok p) = out ≡ Ok p
Says out (Err e) = e ≢ OutOfMemory → out ≡ Err e

-- the same for a function that drops the place behind the tree
abbrev pub Tells : {A : Type 0} → Outcome A → Result A Refusal → Type 0
Tells out (Ok x) = (j : ℕ) × (out ≡ Ok (x, j))
Tells out (Err e) = e ≢ OutOfMemory → out ≡ Err e
