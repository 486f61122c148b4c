-- What stands at numbers of a list: tests of all numbers of a range and of some, and instructions by their numbers.
use Rattle.std.proofs.Common.{◌≡◌, ℕ, zero, suc, ◌+◌, ◌-◌, ◌<◌, ◌≤◌, Bool, true, false, not, ◌&&◌, ◌||◌, List, [], ◌∷◌, length, slice_get, drop, refl, sym, ap, subst, ◌∙◌, inl, inr, arith}
use Rattle.std.proofs.lemmas.Bool.{false≢true}
use Rattle.std.specs.List.{list_all, list_any, range_with_len}
use Rattle.std.specs.Prelude.{◌⊎◌}
use Rattle.qt_ring.proofs.RingLaws.{and_left, and_right}
use Rattle.qt_instructions.specs.declared.instruction.Instr.{Instr}
use Rattle.qt_code.specs.Tested.{all_pass, passes}

-- ---- truth values

pub both : (a b : Bool) → a ≡ true → b ≡ true → (a && b) ≡ true
both a b e f = ap (λ t. t && b) e ∙ f

pub one_of : (a b : Bool) → (a || b) ≡ true → (a ≡ true) ⊎ (b ≡ true)
one_of true b e = inl refl
one_of false b e = inr e

pub first_of : (a b : Bool) → a ≡ true → (a || b) ≡ true
first_of a b e = ap (λ t. t || b) e

pub second_of : (a b : Bool) → b ≡ true → (a || b) ≡ true
second_of true b e = refl
second_of false b e = e

pub not_true : (a : Bool) → not a ≡ true → a ≡ false
not_true false e = refl
not_true true e = absurd (false≢true e)

pub not_false : (a : Bool) → a ≡ false → not a ≡ true
not_false a e = ap not e

-- it holds, or doesn't
pub told : (a : Bool) → (a ≡ true) ⊎ (a ≡ false)
told true = inl refl
told false = inr refl

pub refuted : (a : Bool) → (a ≡ true → ⊥) → a ≡ false
refuted true h = absurd (h refl)
refuted false h = refl

pub never_both : (a : Bool) → a ≡ true → a ≡ false → ⊥
never_both a e f = false≢true (sym f ∙ e)

-- ---- ranges of numbers

all_at : (test : ℕ → Bool) (first count k : ℕ) → list_all test (range_with_len first count) ≡ true → k < count
    → test (first + k) ≡ true
all_at test first zero k h lt = absurd (omega (arith, lt))
all_at test first (suc count) zero h lt =
    let e : first ≡ first + 0 = omega arith in
    subst (λ n. test n ≡ true) e (and_left (test first) (list_all test (range_with_len (first + 1) count)) h)
all_at test first (suc count) (suc k) h lt =
    let e : first + 1 + k ≡ first + suc k = omega arith in
    subst (λ n. test n ≡ true) e
    (all_at test (first + 1) count k (and_right (test first) (list_all test (range_with_len (first + 1) count)) h) (omega (arith, lt)))

pub all_told : (test : ℕ → Bool) (first count k : ℕ) → list_all test (range_with_len first count) ≡ true → first ≤ k → k < first + count
    → test k ≡ true
all_told test first count k h a b =
    let e : first + (k - first) ≡ k = omega (arith, a) in
    subst (λ n. test n ≡ true) e (all_at test first count (k - first) h (omega (arith, a, b)))

pub all_shown : (test : ℕ → Bool) (first count : ℕ) → ((k : ℕ) → first ≤ k → k < first + count → test k ≡ true)
    → list_all test (range_with_len first count) ≡ true
all_shown test first zero h = refl
all_shown test first (suc count) h =
    both (test first) (list_all test (range_with_len (first + 1) count)) (h first (omega arith) (omega arith))
    (all_shown test (first + 1) count (λ k a b. h k (omega (arith, a)) (omega (arith, b))))

-- a number that passes
pub record Some_of (test : ℕ → Bool) (first last : ℕ) : Type 0 where
  pub it : ℕ
  pub from : first ≤ it
  pub before : it < last
  pub passed : test it ≡ true

pub some_told : (test : ℕ → Bool) (first count : ℕ) → list_any test (range_with_len first count) ≡ true
    → Some_of test first (first + count)
some_told test first zero h = absurd (false≢true h)
some_told test first (suc count) h =
    elim (one_of (test first) (list_any test (range_with_len (first + 1) count)) h) [
      | inl e ↦ record { it = first; from = omega arith; before = omega arith; passed = e }
      | inr e ↦
          let r = some_told test (first + 1) count e in
          let from = r.from in
          let before = r.before in
          record { it = r.it; from = omega (arith, from); before = omega (arith, before); passed = r.passed }
    ]

some_at : (test : ℕ → Bool) (first count k : ℕ) → k < count → test (first + k) ≡ true → list_any test (range_with_len first count) ≡ true
some_at test first zero k lt h = absurd (omega (arith, lt))
some_at test first (suc count) zero lt h =
    let e : first + 0 ≡ first = omega arith in
    first_of (test first) (list_any test (range_with_len (first + 1) count)) (subst (λ n. test n ≡ true) e h)
some_at test first (suc count) (suc k) lt h =
    let e : first + suc k ≡ first + 1 + k = omega arith in
    second_of (test first) (list_any test (range_with_len (first + 1) count))
    (some_at test (first + 1) count k (omega (arith, lt)) (subst (λ n. test n ≡ true) e h))

pub some_shown : (test : ℕ → Bool) (first count k : ℕ) → first ≤ k → k < first + count → test k ≡ true
    → list_any test (range_with_len first count) ≡ true
some_shown test first count k a b h =
    let e : k ≡ first + (k - first) = omega (arith, a) in
    some_at test first count (k - first) (omega (arith, a, b)) (subst (λ n. test n ≡ true) e h)

-- ---- instructions by their numbers

pub passed_within : (test : Instr → Bool) (code : List Instr) (at : ℕ) → passes test code at ≡ true → at < length code
passed_within test [] at h = absurd (false≢true h)
passed_within test (x ∷ code) zero h = omega arith
passed_within test (x ∷ code) (suc at) h = let r = passed_within test code at h in omega (arith, r)

pub get_dropped : (n : ℕ) (code : List Instr) (at : ℕ) → slice_get (drop n code) at ≡ slice_get code (n + at)
get_dropped zero code at = ap (slice_get code) (omega arith)
get_dropped (suc n) [] at = refl
get_dropped (suc n) (x ∷ code) at =
    let e : suc (n + at) ≡ suc n + at = omega arith in
    get_dropped n code at ∙ ap (slice_get (x ∷ code)) e

-- each instruction from one number on, up to another but for that
abbrev pub Between : (Instr → Bool) → List Instr → ℕ → ℕ → Type 0
Between test code from to = (k : ℕ) → from ≤ k → k < to → passes test code k ≡ true

pub between_told : (test : Instr → Bool) (code : List Instr) (from to : ℕ) → all_pass test code from to ≡ true → Between test code from to
between_told test code from to h k a b = all_told (passes test code) from (to - from) k h a (omega (arith, a, b))

pub between_shown : (test : Instr → Bool) (code : List Instr) (from to : ℕ) → Between test code from to → all_pass test code from to ≡ true
between_shown test code from to h = all_shown (passes test code) from (to - from) (λ k a b. h k a (omega (arith, a, b)))

-- behind one more instruction
pub between_later : (test : Instr → Bool) (x : Instr) (code : List Instr) (from to : ℕ) → Between test code from to
    → Between test (x ∷ code) (suc from) (suc to)
between_later test x code from to h zero a b = absurd (omega (arith, a))
between_later test x code from to h (suc k) a b = h k (omega (arith, a)) (omega (arith, b))

pub between_whole : (test : Instr → Bool) (x : Instr) (code : List Instr) (to : ℕ) → test x ≡ true → Between test code 0 to
    → Between test (x ∷ code) 0 (suc to)
between_whole test x code to e h zero a b = e
between_whole test x code to e h (suc k) a b = h k (omega arith) (omega (arith, b))

pub between_rest : (test : Instr → Bool) (x : Instr) (code : List Instr) (from to : ℕ) → Between test (x ∷ code) (suc from) (suc to)
    → Between test code from to
between_rest test x code from to h k a b = h (suc k) (omega (arith, a)) (omega (arith, b))
