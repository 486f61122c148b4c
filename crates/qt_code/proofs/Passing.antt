-- What the two passes over the code find: a test before each primitive that needs one, and such a primitive behind gates alone.
use Rattle.std.proofs.Common.{◌≡◌, ℕ, zero, suc, ◌<◌, ◌≤◌, Bool, true, false, not, ◌&&◌, ◌||◌, Option, Some, None, List, [], ◌∷◌, length, slice_get, refl, sym, ap, subst, inl, inr, arith}
use Rattle.std.proofs.lemmas.Bool.{false≢true}
use Rattle.std.proofs.lemmas.Bool.Decides.{same_from_decides}
use Rattle.std.proofs.lemmas.List.{drop_all}
use Rattle.std.specs.List.{list_all, list_any, range_with_len}
use Rattle.std.specs.Prelude.{◌⊎◌}
use Rattle.qt_ring.proofs.RingLaws.{and_left, and_right}
use Rattle.qt_instructions.specs.declared.reference.QubitRef.{QubitRef}
use Rattle.qt_instructions.specs.declared.reference.QubitRef.TheVariants as qubit
use Rattle.qt_instructions.specs.declared.instruction.Instr.{Instr}
use Rattle.qt_instructions.specs.declared.instruction.Instr.TheVariants as instr
use Rattle.qt_code_rules.specs.References.{is_tested}
use Rattle.qt_code.specs.Different.{references_of}
use Rattle.qt_code.specs.Passes.{all_have_tests, applies_tested, has_test, is_inside, stays_outside, tested_behind}
use Rattle.qt_code.specs.Tested.{all_pass, is_test_for, is_test_of, is_work, keeps_tested, needs_test, passes, some_passes}
use Rattle.qt_code.proofs.Numbered.{both, one_of, first_of, second_of, not_false, told, never_both, all_told, all_shown, some_told, some_shown, passed_within, Between, between_told, between_shown, between_later, between_whole, between_rest}

-- ---- the passes

abbrev pub tests_pass : List QubitRef → List Instr → Bool
tests_pass tested [] = true
tests_pass tested (i ∷ is) = applies_tested tested i && tests_pass (tested_behind tested i) is

abbrev pub inside_pass : List Instr → Bool
inside_pass [] = false
inside_pass (i ∷ is) = needs_test i || (keeps_tested i && inside_pass is)

-- ---- one instruction

abbrev applies_there : List QubitRef → Option Instr → Bool
applies_there tested None = true
applies_there tested (Some i) = applies_tested tested i

-- references in cells aren't tested where nothing was
none_tested : (refs : List QubitRef) → list_any is_work refs ≡ true → list_all (is_tested []) refs ≡ true → ⊥
none_tested [] h e = false≢true h
none_tested (qubit.At q ∷ refs) h e = none_tested refs h e
none_tested (qubit.Work cell ∷ refs) h e = false≢true e

none_applies : (o : Option Instr) → some_passes needs_test o ≡ true → applies_there [] o ≡ true → ⊥
none_applies None h e = false≢true h
none_applies (Some (instr.Gate p)) h e = none_tested (references_of p) h e
none_applies (Some _) h e = false≢true h

-- fixed qubits are as good as tested
fixed_tested : (tested refs : List QubitRef) → list_any is_work refs ≡ false → list_all (is_tested tested) refs ≡ true
fixed_tested tested [] h = refl
fixed_tested tested (qubit.At q ∷ refs) h = fixed_tested tested refs h
fixed_tested tested (qubit.Work cell ∷ refs) h = absurd (false≢true (sym h))

no_need : (tested : List QubitRef) (i : Instr) → needs_test i ≡ false → applies_tested tested i ≡ true
no_need tested (instr.Gate p) h = fixed_tested tested (references_of p) h
no_need tested _ h = refl

test_found : (refs : List QubitRef) (o : Option Instr) → some_passes needs_test o ≡ true → applies_there refs o ≡ true
    → is_test_of (Some (instr.Distinct refs)) o ≡ true
test_found refs None h e = absurd (false≢true h)
test_found refs (Some (instr.Gate p)) h e = e
test_found refs (Some _) h e = absurd (false≢true h)

test_used : (refs : List QubitRef) (o : Option Instr) → is_test_of (Some (instr.Distinct refs)) o ≡ true → applies_there refs o ≡ true
test_used refs None h = absurd (false≢true h)
test_used refs (Some (instr.Gate p)) h = h
test_used refs (Some _) h = absurd (false≢true h)

pub tests_keep_nothing : (i : Instr) (o : Option Instr) → is_test_of (Some i) o ≡ true → keeps_tested i ≡ true → ⊥
tests_keep_nothing (instr.Gate p) o h e = false≢true h
tests_keep_nothing (instr.AngleOp cell operation) o h e = false≢true h
tests_keep_nothing _ o h e = false≢true e

kept_behind : (tested : List QubitRef) (i : Instr) → keeps_tested i ≡ true → tested_behind tested i ≡ tested
kept_behind tested (instr.Gate p) h = refl
kept_behind tested (instr.AngleOp cell operation) h = refl
kept_behind tested _ h = absurd (false≢true h)

-- ---- a test before each

-- a test of the primitive with the number `at`
pub record IsTestFor (code : List Instr) (at test : ℕ) : Type 0 where
  pub before : test < at
  pub tests : is_test_of (slice_get code test) (slice_get code at) ≡ true
  pub only : Between keeps_tested code (suc test) at

abbrev pub HasTest : List Instr → ℕ → Type 0
HasTest code at = (test : ℕ) × IsTestFor code at test

pub test_told : (code : List Instr) (at test : ℕ) → test < at → is_test_for code at test ≡ true → IsTestFor code at test
test_told code at test lt h =
    let a = is_test_of (slice_get code test) (slice_get code at) in
    let b = all_pass keeps_tested code (suc test) at in
    record { before = lt; tests = and_left a b h; only = between_told keeps_tested code (suc test) at (and_right a b h) }

pub test_shown : (code : List Instr) (at test : ℕ) → IsTestFor code at test → is_test_for code at test ≡ true
test_shown code at test t =
    both (is_test_of (slice_get code test) (slice_get code at)) (all_pass keeps_tested code (suc test) at) t.tests
    (between_shown keeps_tested code (suc test) at t.only)

-- what was tested before the first instruction serves a primitive
record Carried (tested : List QubitRef) (code : List Instr) (at : ℕ) : Type 0 where
  applies : applies_there tested (slice_get code at) ≡ true
  only : Between keeps_tested code 0 at

abbrev Served : List QubitRef → List Instr → ℕ → Type 0
Served tested code at = Carried tested code at ⊎ HasTest code at

carried_on : (tested : List QubitRef) (x : Instr) (code : List Instr) (at : ℕ) → passes needs_test code at ≡ true
    → Carried (tested_behind tested x) code at → Served tested (x ∷ code) (suc at)
carried_on tested (instr.Distinct refs) code at h c =
    inr (
      0,
      record {
        before = omega arith;
        tests = test_found refs (slice_get code at) h c.applies;
        only = between_later keeps_tested (instr.Distinct refs) code 0 at c.only;
      },
    )
carried_on tested (instr.Gate p) code at h c =
    inl (record { applies = c.applies; only = between_whole keeps_tested (instr.Gate p) code at refl c.only })
carried_on tested (instr.AngleOp cell operation) code at h c =
    inl (record { applies = c.applies; only = between_whole keeps_tested (instr.AngleOp cell operation) code at refl c.only })
carried_on tested _ code at h c = absurd (none_applies (slice_get code at) h c.applies)

tested_on : (x : Instr) (code : List Instr) (at test : ℕ) → IsTestFor code at test → IsTestFor (x ∷ code) (suc at) (suc test)
tested_on x code at test t = record {
  before = omega (arith, t.before);
  tests = t.tests;
  only = between_later keeps_tested x code (suc test) at t.only;
}

served_on : (tested : List QubitRef) (x : Instr) (code : List Instr) (at : ℕ) → passes needs_test code at ≡ true
    → Served (tested_behind tested x) code at → Served tested (x ∷ code) (suc at)
served_on tested x code at h (inl c) = carried_on tested x code at h c
served_on tested x code at h (inr t) = inr (suc t.0, tested_on x code at t.0 t.1)

pass_told : (tested : List QubitRef) (code : List Instr) → tests_pass tested code ≡ true → (at : ℕ) → passes needs_test code at ≡ true
    → Served tested code at
pass_told tested [] e at h = absurd (false≢true h)
pass_told tested (x ∷ code) e zero h =
    inl (record {
      applies = and_left (applies_tested tested x) (tests_pass (tested_behind tested x) code) e;
      only = λ k a b. absurd (omega (arith, b));
    })
pass_told tested (x ∷ code) e (suc at) h =
    served_on tested x code at h
    (pass_told (tested_behind tested x) code (and_right (applies_tested tested x) (tests_pass (tested_behind tested x) code) e) at h)

first_served : (tested : List QubitRef) (x : Instr) (code : List Instr) → Served tested (x ∷ code) 0 → applies_tested tested x ≡ true
first_served tested x code (inl c) = c.applies
first_served tested x code (inr t) = absurd (omega (arith, t.1.before))

first_applies : (tested : List QubitRef) (x : Instr) (code : List Instr) → (needs_test x ≡ true → Served tested (x ∷ code) 0)
    → applies_tested tested x ≡ true
first_applies tested x code f =
    elim (told (needs_test x)) [ inl e ↦ first_served tested x code (f e) | inr e ↦ no_need tested x e ]

rest_of_test : (x : Instr) (tested : List QubitRef) (code : List Instr) (at : ℕ) → is_test_of (Some x) (slice_get code at) ≡ true
    → Between keeps_tested (x ∷ code) 1 (suc at) → Carried (tested_behind tested x) code at
rest_of_test (instr.Distinct refs) tested code at h only = record {
  applies = test_used refs (slice_get code at) h;
  only = between_rest keeps_tested (instr.Distinct refs) code 0 at only;
}
rest_of_test _ tested code at h only = absurd (false≢true h)

rest_tested : (tested : List QubitRef) (x : Instr) (code : List Instr) (at test : ℕ) → IsTestFor (x ∷ code) (suc at) test
    → Served (tested_behind tested x) code at
rest_tested tested x code at zero t = inl (rest_of_test x tested code at t.tests t.only)
rest_tested tested x code at (suc test) t = inr (
  test,
  record {
    before = omega (arith, t.before);
    tests = t.tests;
    only = between_rest keeps_tested x code (suc test) at t.only;
  },
)

rest_served : (tested : List QubitRef) (x : Instr) (code : List Instr) (at : ℕ) → Served tested (x ∷ code) (suc at)
    → Served (tested_behind tested x) code at
rest_served tested x code at (inl c) =
    inl (record {
      applies = subst (λ t. applies_there t (slice_get code at) ≡ true)
          (sym (kept_behind tested x (c.only 0 (omega arith) (omega arith)))) c.applies;
      only = λ k a b. c.only (suc k) (omega arith) (omega (arith, b));
    })
rest_served tested x code at (inr t) = rest_tested tested x code at t.0 t.1

pass_shown : (tested : List QubitRef) (code : List Instr) → ((at : ℕ) → passes needs_test code at ≡ true → Served tested code at)
    → tests_pass tested code ≡ true
pass_shown tested [] f = refl
pass_shown tested (x ∷ code) f =
    both (applies_tested tested x) (tests_pass (tested_behind tested x) code) (first_applies tested x code (f 0))
    (pass_shown (tested_behind tested x) code (λ at h. rest_served tested x code at (f (suc at) h)))

only_tests : (code : List Instr) (at : ℕ) → passes needs_test code at ≡ true → Served [] code at → HasTest code at
only_tests code at h (inl c) = absurd (none_applies (slice_get code at) h c.applies)
only_tests code at h (inr t) = t

-- each that needs a test has one
abbrev pub AllHaveTests : List Instr → Type 0
AllHaveTests code = (at : ℕ) → passes needs_test code at ≡ true → HasTest code at

has_test_told : (code : List Instr) (at : ℕ) → has_test code at ≡ true → passes needs_test code at ≡ true → HasTest code at
has_test_told code at h e =
    elim (one_of (not (passes needs_test code at)) (list_any (is_test_for code at) (range_with_len 0 at)) h) [
      | inl f ↦ absurd (never_both (not (passes needs_test code at)) f (ap not e))
      | inr f ↦ let r = some_told (is_test_for code at) 0 at f in (r.it, test_told code at r.it (omega (arith, r.before)) r.passed)
    ]

has_test_shown : (code : List Instr) (at : ℕ) → (passes needs_test code at ≡ true → HasTest code at) → has_test code at ≡ true
has_test_shown code at f =
    elim (told (passes needs_test code at)) [
      | inl e ↦
          let t = f e in
          let before = t.1.before in
          second_of (not (passes needs_test code at)) (list_any (is_test_for code at) (range_with_len 0 at))
          (some_shown (is_test_for code at) 0 at t.0 (omega arith) (omega (arith, before)) (test_shown code at t.0 t.1))
      | inr e ↦
          first_of (not (passes needs_test code at)) (list_any (is_test_for code at) (range_with_len 0 at))
          (not_false (passes needs_test code at) e)
    ]

pub tests_told : (code : List Instr) → all_have_tests code ≡ true → AllHaveTests code
tests_told code h at e =
    let within = passed_within needs_test code at e in
    has_test_told code at (all_told (has_test code) 0 (length code) at h (omega arith) (omega (arith, within))) e

pub tests_shown : (code : List Instr) → AllHaveTests code → all_have_tests code ≡ true
tests_shown code f = all_shown (has_test code) 0 (length code) (λ at a b. has_test_shown code at (f at))

pub tests_passed : (code : List Instr) → tests_pass [] code ≡ all_have_tests code
tests_passed code =
    same_from_decides {P = AllHaveTests code} (tests_pass [] code) (all_have_tests code)
    (λ e at h. only_tests code at h (pass_told [] code e at h), λ f. pass_shown [] code (λ at h. inr (f at h)))
    (tests_told code, tests_shown code)

-- ---- a primitive that needs a test, reached over gates alone

pub record IsReached (code : List Instr) (at : ℕ) : Type 0 where
  pub needs : passes needs_test code at ≡ true
  pub only : Between keeps_tested code 0 at

abbrev pub IsInside : List Instr → Type 0
IsInside code = (at : ℕ) × IsReached code at

inside_told : (code : List Instr) → inside_pass code ≡ true → IsInside code
inside_told [] e = absurd (false≢true e)
inside_told (x ∷ code) e =
    elim (one_of (needs_test x) (keeps_tested x && inside_pass code) e) [
      | inl h ↦ (0, record { needs = h; only = λ k a b. absurd (omega (arith, b)) })
      | inr h ↦
          let r = inside_told code (and_right (keeps_tested x) (inside_pass code) h) in (
            suc r.0,
            record {
              needs = r.1.needs;
              only = between_whole keeps_tested x code r.0 (and_left (keeps_tested x) (inside_pass code) h) r.1.only;
            },
          )
    ]

inside_shown : (code : List Instr) (at : ℕ) → IsReached code at → inside_pass code ≡ true
inside_shown [] at r = absurd (false≢true r.needs)
inside_shown (x ∷ code) zero r = first_of (needs_test x) (keeps_tested x && inside_pass code) r.needs
inside_shown (x ∷ code) (suc at) r =
    second_of (needs_test x) (keeps_tested x && inside_pass code)
    (both (keeps_tested x) (inside_pass code) (r.only 0 (omega arith) (omega arith))
    (inside_shown code at (record { needs = r.needs; only = λ k a b. r.only (suc k) (omega arith) (omega (arith, b)) })))

abbrev reached : List Instr → ℕ → Bool
reached code at = passes needs_test code at && all_pass keeps_tested code 0 at

pub is_inside_told : (code : List Instr) → is_inside code ≡ true → IsInside code
is_inside_told code h =
    let r = some_told (reached code) 0 (length code) h in
    let a = passes needs_test code r.it in
    let b = all_pass keeps_tested code 0 r.it in
    (r.it, record { needs = and_left a b r.passed; only = between_told keeps_tested code 0 r.it (and_right a b r.passed) })

pub is_inside_shown : (code : List Instr) → IsInside code → is_inside code ≡ true
is_inside_shown code r =
    let within = passed_within needs_test code r.0 r.1.needs in
    some_shown (reached code) 0 (length code) r.0 (omega arith) (omega (arith, within))
    (both (passes needs_test code r.0) (all_pass keeps_tested code 0 r.0) r.1.needs (between_shown keeps_tested code 0 r.0 r.1.only))

pub inside_passed : (code : List Instr) → inside_pass code ≡ is_inside code
inside_passed code =
    same_from_decides {P = IsInside code} (inside_pass code) (is_inside code)
    (inside_told code, λ r. inside_shown code r.0 r.1) (is_inside_told code, is_inside_shown code)

-- ---- behind the end

pub nothing_inside : (code : List Instr) (number : ℕ) → length code ≤ number → stays_outside code (Some number) ≡ true
nothing_inside code number h = ap (λ rest. not (is_inside rest)) (drop_all number code h)
