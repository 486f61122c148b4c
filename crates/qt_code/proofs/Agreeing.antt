-- The two passes decide the rule: each primitive with a reference in a work cell stands behind its test, and no jump lands in between.
use Rattle.std.proofs.Common.{◌≡◌, ℕ, ◌+◌, ◌-◌, ◌<◌, ◌≤◌, Bool, true, false, not, ◌&&◌, ◌||◌, nat_le, nat_lt, Option, Some, None, List, [], ◌∷◌, length, slice_get, drop, refl, sym, ap, subst, ◌∙◌, inl, inr, arith}
use Rattle.std.proofs.lemmas.Bool.{false≢true, le-leb, leb-true, ltb-true, ltb-false}
use Rattle.std.proofs.lemmas.Bool.Decides.{same_from_decides}
use Rattle.std.specs.List.{list_all, list_any, range_with_len}
use Rattle.qt_ring.proofs.RingLaws.{and_left, and_right}
use Rattle.qt_instructions.specs.declared.instruction.Instr.{Instr}
use Rattle.qt_instructions.specs.Targets.{target_of}
use Rattle.qt_code.specs.Passes.{all_have_tests, is_inside, jumps_stay_outside, stays_outside}
use Rattle.qt_code.specs.Tested.{all_tested, has_jump_between, is_between, is_test_for, is_test_of, is_tested_at, keeps_tested, needs_test, passes, some_passes}
use Rattle.qt_code.proofs.Numbered.{both, one_of, first_of, second_of, not_true, not_false, told, refuted, never_both, all_told, all_shown, some_told, some_shown, passed_within, get_dropped}
use Rattle.qt_code.proofs.Passing.{IsTestFor, tests_keep_nothing, test_told, test_shown, tests_told, tests_shown, is_inside_told, is_inside_shown}

-- ---- behind a jump

passes_dropped : (test : Instr → Bool) (to : ℕ) (code : List Instr) (at : ℕ) → passes test (drop to code) at ≡ passes test code (to + at)
passes_dropped test to code at = ap (some_passes test) (get_dropped to code at)

-- a jump that lands behind a test and not behind its primitive lands inside
lands_inside : (code : List Instr) (at test to : ℕ) → passes needs_test code at ≡ true → IsTestFor code at test → test < to → to ≤ at
    → is_inside (drop to code) ≡ true
lands_inside code at test to h t a b =
    let e : at ≡ to + (at - to) = omega (arith, b) in
    is_inside_shown (drop to code) (
      at - to,
      record {
        needs = passes_dropped needs_test to code (at - to) ∙ subst (λ n. passes needs_test code n ≡ true) e h;
        only = λ k c d. passes_dropped keeps_tested to code k ∙ t.only (to + k) (omega (arith, a)) (omega (arith, b, d));
      },
    )

-- ---- from the passes to the rule

none_between : (code : List Instr) (at test : ℕ) → passes needs_test code at ≡ true → IsTestFor code at test → (o : Option ℕ)
    → stays_outside code o ≡ true → is_between test at o ≡ false
none_between code at test h t None s = refl
none_between code at test h t (Some to) s =
    refuted (nat_lt test to && nat_le to at) (λ e.
    never_both (is_inside (drop to code))
    (lands_inside code at test to h t (ltb-true test to (and_left (nat_lt test to) (nat_le to at) e))
    (leb-true to at (and_right (nat_lt test to) (nat_le to at) e)))
    (not_true (is_inside (drop to code)) s))

no_jump : (code : List Instr) (at test : ℕ) → passes needs_test code at ≡ true → IsTestFor code at test → (js : List Instr)
    → list_all (λ i. stays_outside code (target_of i)) js ≡ true → list_any (λ i. is_between test at (target_of i)) js ≡ false
no_jump code at test h t [] s = refl
no_jump code at test h t (j ∷ js) s =
    let a = stays_outside code (target_of j) in
    let b = list_all (λ i. stays_outside code (target_of i)) js in
    ap (λ v. v || list_any (λ i. is_between test at (target_of i)) js) (none_between code at test h t (target_of j) (and_left a b s))
    ∙ no_jump code at test h t js (and_right a b s)

-- ---- the rule

-- a test of the primitive with the number `at`, and no jump in between
record IsSafe (code js : List Instr) (at : ℕ) : Type 0 where
  test : ℕ
  is_test : IsTestFor code at test
  no_jump_between : list_any (λ i. is_between test at (target_of i)) js ≡ false

abbrev AllSafe : List Instr → List Instr → Type 0
AllSafe code js = (at : ℕ) → passes needs_test code at ≡ true → IsSafe code js at

abbrev safe_test : List Instr → ℕ → ℕ → Bool
safe_test code at test = is_test_for code at test && not (has_jump_between code at test)

tested_told : (code : List Instr) (at : ℕ) → is_tested_at code at ≡ true → passes needs_test code at ≡ true → IsSafe code code at
tested_told code at h e =
    elim (one_of (not (passes needs_test code at)) (list_any (safe_test code at) (range_with_len 0 at)) h) [
      | inl f ↦ absurd (never_both (not (passes needs_test code at)) f (ap not e))
      | inr f ↦
          let r = some_told (safe_test code at) 0 at f in
          let a = is_test_for code at r.it in
          let b = not (has_jump_between code at r.it) in
          record {
            test = r.it;
            is_test = test_told code at r.it (omega (arith, r.before)) (and_left a b r.passed);
            no_jump_between = not_true (has_jump_between code at r.it) (and_right a b r.passed);
          }
    ]

tested_shown : (code : List Instr) (at : ℕ) → (passes needs_test code at ≡ true → IsSafe code code at) → is_tested_at code at ≡ true
tested_shown code at f =
    elim (told (passes needs_test code at)) [
      | inl e ↦
          let s = f e in
          let before = s.is_test.before in
          second_of (not (passes needs_test code at)) (list_any (safe_test code at) (range_with_len 0 at))
          (some_shown (safe_test code at) 0 at s.test (omega arith) (omega (arith, before))
          (both (is_test_for code at s.test) (not (has_jump_between code at s.test)) (test_shown code at s.test s.is_test)
          (not_false (has_jump_between code at s.test) s.no_jump_between)))
      | inr e ↦
          first_of (not (passes needs_test code at)) (list_any (safe_test code at) (range_with_len 0 at))
          (not_false (passes needs_test code at) e)
    ]

all_tested_told : (code : List Instr) → all_tested code ≡ true → AllSafe code code
all_tested_told code h at e =
    let within = passed_within needs_test code at e in
    tested_told code at (all_told (is_tested_at code) 0 (length code) at h (omega arith) (omega (arith, within))) e

all_tested_shown : (code : List Instr) → AllSafe code code → all_tested code ≡ true
all_tested_shown code f = all_shown (is_tested_at code) 0 (length code) (λ at a b. tested_shown code at (f at))

-- ---- from the rule to the passes

some_keeps : (o q : Option Instr) → is_test_of o q ≡ true → some_passes keeps_tested o ≡ true → ⊥
some_keeps None q h e = false≢true e
some_keeps (Some i) q h e = tests_keep_nothing i q h e

-- a jump that lands where such a primitive is reached lands in between
lands_between : (code : List Instr) (to at test : ℕ) → IsTestFor code (to + at) test
    → ((k : ℕ) → k < at → passes keeps_tested code (to + k) ≡ true) → is_between test (to + at) (Some to) ≡ true
lands_between code to at test t only =
    elim (told (nat_lt test to)) [
      | inl e ↦ both (nat_lt test to) (nat_le to (to + at)) e (le-leb to (to + at) (omega arith))
      | inr e ↦
          let behind = ltb-false test to e in
          let before = t.before in
          let n : to + (test - to) ≡ test = omega (arith, behind) in
          absurd (some_keeps (slice_get code test) (slice_get code (to + at)) t.tests
          (subst (λ k. passes keeps_tested code k ≡ true) n (only (test - to) (omega (arith, behind, before)))))
    ]

none_first : (a b : Bool) → (a || b) ≡ false → a ≡ false
none_first false b e = refl
none_first true b e = e

none_rest : (a b : Bool) → (a || b) ≡ false → b ≡ false
none_rest false b e = e
none_rest true b e = absurd (false≢true (sym e))

stays : (code js : List Instr) (j : Instr) → AllSafe code (j ∷ js) → (o : Option ℕ) → target_of j ≡ o → stays_outside code o ≡ true
stays code js j f None e = refl
stays code js j f (Some to) e =
    not_false (is_inside (drop to code)) (refuted (is_inside (drop to code)) (λ h.
    let r = is_inside_told (drop to code) h in
    let at = r.0 in
    let s = f (to + at) (sym (passes_dropped needs_test to code at) ∙ r.1.needs) in
    let only : (k : ℕ) → k < at → passes keeps_tested code (to + k) ≡ true =
    λ k b. sym (passes_dropped keeps_tested to code k) ∙ r.1.only k (omega arith) b in
    never_both (is_between s.test (to + at) (Some to)) (lands_between code to at s.test s.is_test only)
    (ap (is_between s.test (to + at)) (sym e)
    ∙ none_first (is_between s.test (to + at) (target_of j)) (list_any (λ i. is_between s.test (to + at) (target_of i)) js)
    s.no_jump_between)))

all_stay : (code js : List Instr) → AllSafe code js → list_all (λ i. stays_outside code (target_of i)) js ≡ true
all_stay code [] f = refl
all_stay code (j ∷ js) f =
    both (stays_outside code (target_of j)) (list_all (λ i. stays_outside code (target_of i)) js) (stays code js j f (target_of j) refl)
    (all_stay code js (λ at h. let s = f at h in record {
      test = s.test;
      is_test = s.is_test;
      no_jump_between =
          none_rest (is_between s.test at (target_of j)) (list_any (λ i. is_between s.test at (target_of i)) js) s.no_jump_between;
    }))

-- ---- both

passes_told : (code : List Instr) → (all_have_tests code && jumps_stay_outside code) ≡ true → AllSafe code code
passes_told code e at h =
    let t = tests_told code (and_left (all_have_tests code) (jumps_stay_outside code) e) at h in
    record {
      test = t.0;
      is_test = t.1;
      no_jump_between = no_jump code at t.0 h t.1 code (and_right (all_have_tests code) (jumps_stay_outside code) e);
    }

passes_shown : (code : List Instr) → AllSafe code code → (all_have_tests code && jumps_stay_outside code) ≡ true
passes_shown code f =
    both (all_have_tests code) (jumps_stay_outside code) (tests_shown code (λ at h. let s = f at h in (s.test, s.is_test)))
    (all_stay code code f)

passes_decide : (code : List Instr) → (all_have_tests code && jumps_stay_outside code) ≡ all_tested code
passes_decide code =
    same_from_decides {P = AllSafe code code} (all_have_tests code && jumps_stay_outside code) (all_tested code)
    (passes_told code, passes_shown code) (all_tested_told code, all_tested_shown code)

pub jumps_decide : (code : List Instr) → all_have_tests code ≡ true → jumps_stay_outside code ≡ all_tested code
jumps_decide code h = sym (ap (λ b. b && jumps_stay_outside code) h) ∙ passes_decide code

pub tests_decide : (code : List Instr) → all_have_tests code ≡ false → all_tested code ≡ false
tests_decide code h = sym (passes_decide code) ∙ ap (λ b. b && jumps_stay_outside code) h
