-- Judgements one after the other, up to the first that fails (OpenQASM 3.0 live specification, "Types and Casting"; Cross et al. 2022).
-- A judgement gives what it finds, or a refusal with the place of its statement. Judgements go from left to right.
use Rattle.std.specs.Prelude.{◌≡◌, ◌≢◌, ◌-◌, ◌^◌, ℕ, min, Option, Some, None, Result, Ok, Err, Bool, true, false}
use Rattle.qt_const_rules.specs.Answers.{Answer}
use Rattle.qt_const_rules.specs.Refusals.{refusal_of}
use Rattle.qt_tree.specs.declared.place.Place.{Place}
use Rattle.qt_tree.specs.declared.refusal.TextRefusal.{TextRefusal}
use Rattle.qt_tree.specs.declared.refusal.TextRefusal.TheVariants as refusal

abbrev pub Checked : Type 0 → Type 0
Checked A = Result A TextRefusal

-- one judgement, and then the next
abbrev pub and_then : {A B : Type 0} → Checked A → (A → Checked B) → Checked B
and_then (Ok a) f = f a
and_then (Err e) f = Err e

-- refused where the test holds
abbrev pub unless : Bool → TextRefusal → Checked (Unit {0})
unless true e = Err e
unless false e = Ok tt

abbrev pub or_refuse : {A : Type 0} → TextRefusal → Option A → Checked A
or_refuse e (Some a) = Ok a
or_refuse e None = Err e

-- what is answered of a constant in a statement at this place
abbrev pub answer_at : {A : Type 0} → Place → Answer A → Checked A
answer_at place (Ok a) = Ok a
answer_at place (Err e) = Err (refusal_of place e)

-- numbers are told up to this one
abbrev pub last_number : ℕ
last_number = 2 ^ 32 - 1

abbrev pub told : ℕ → ℕ
told n = min n last_number

-- ---- what a call ensures: what is found, or want of memory

abbrev pub Gives : {A : Type 0} → Checked A → Checked A → Type 0
Gives outcome (Ok a) = outcome ≡ Ok a
Gives outcome (Err e) = e ≢ refusal.OutOfMemory → outcome ≡ Err e

-- the same of a call that changes what later statements see
abbrev pub Makes : {A S : Type 0} → Checked (A × S) → Checked A → S → Type 0
Makes outcome (Ok a) new = outcome ≡ Ok (a, new)
Makes outcome (Err e) new = e ≢ refusal.OutOfMemory → outcome ≡ Err e
