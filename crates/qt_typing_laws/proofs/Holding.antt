-- What holds of what a judgement gives, where it gives something.
use Rattle.std.proofs.Common.{◌≡◌, Bool, true, false, Option, Some, None, Result, Ok, Err, refl, subst}
use Rattle.std.specs.Prelude.{if◌then◌else◌}
use Rattle.qt_tree.specs.declared.place.Place.{Place}
use Rattle.qt_const_rules.specs.Answers.{Answer, next}
use Rattle.qt_typing.specs.Checked.{Checked, and_then, answer_at}

-- it holds of the answer
pub record Holds {A E : Type 0} (P : A → Type 0) (r : Result A E) : Type 0 where
  pub by : (a : A) → r ≡ Ok a → P a

pub ok_holds : {A E : Type 0} {P : A → Type 0} {a : A} → P a → Holds {A = A} {E = E} P (Ok a)
ok_holds {P = P} {a = a} p = record { by = λ b e. let same : a ≡ b = cc in subst P same p }

pub err_holds : {A E : Type 0} {P : A → Type 0} {e : E} → Holds P (Err e)
err_holds = record { by = λ b h. cc }

pub any_holds : {A E : Type 0} {r : Result A E} → Holds (λ a. Unit {0}) r
any_holds = record { by = λ a e. tt }

-- one judgement after the other
pub then_holds : {A B : Type 0} {P : A → Type 0} {Q : B → Type 0} {r : Checked A} {f : A → Checked B} → Holds P r
    → ((a : A) → P a → Holds Q (f a)) → Holds Q (and_then r f)
then_holds {r = Ok a} h g = g a (h.by a refl)
then_holds {r = Err e} h g = err_holds

pub next_holds : {A B : Type 0} {P : A → Type 0} {Q : B → Type 0} {r : Answer A} {f : A → Answer B} → Holds P r
    → ((a : A) → P a → Holds Q (f a)) → Holds Q (next r f)
next_holds {r = Ok a} h g = g a (h.by a refl)
next_holds {r = Err e} h g = err_holds

pub answer_holds : {A : Type 0} {P : A → Type 0} {r : Answer A} (place : Place) → Holds P r → Holds P (answer_at place r)
answer_holds {r = Ok a} place h = ok_holds (h.by a refl)
answer_holds {r = Err e} place h = err_holds

-- a test between two
pub if_holds : {A E : Type 0} {P : A → Type 0} {r s : Result A E} (b : Bool) → (b ≡ true → Holds P r) → (b ≡ false → Holds P s)
    → Holds P (if b then r else s)
if_holds true h g = h refl
if_holds false h g = g refl

-- what stands in an option
pub record IfSome {A : Type 0} (P : A → Type 0) (o : Option A) : Type 0 where
  pub by : (a : A) → o ≡ Some a → P a

pub some_is : {A : Type 0} {P : A → Type 0} {a : A} → P a → IfSome P (Some a)
some_is {P = P} {a = a} p = record { by = λ b e. let same : a ≡ b = cc in subst P same p }

pub none_is : {A : Type 0} {P : A → Type 0} → IfSome {A = A} P None
none_is = record { by = λ b e. cc }

pub weakened : {A E : Type 0} {P Q : A → Type 0} {r : Result A E} → Holds P r → ((a : A) → P a → Q a) → Holds Q r
weakened h g = record { by = λ a e. g a (h.by a e) }
