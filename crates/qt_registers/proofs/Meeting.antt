-- Runs that have a number in common.
use Rattle.std.proofs.Common.{◌≡◌, ℕ, ◌+◌, ◌-◌, ◌*◌, ◌/◌, ◌%◌, ◌<◌, ◌≤◌, ◌↔◌, Bool, true, false, true≢false, nat_lt, IsTrue, refl, sym, ap, ◌∙◌, arith, subst}
use Rattle.std.proofs.lemmas.Bool.{ltb-false, ltb-true}
use Rattle.std.proofs.Math.Nat.{div-add-mod, le_of_mul-le-mul_right, mod-lt, mul-div_cancel, mul-le-mul_right, mul-mod_left}
use Rattle.qt_registers.specs.Runs.{HasNumber, Meet}
use Rattle.qt_registers.specs.declared.run.Run.{Run}

-- ---- answers

pub yes_where : (P : Type 0) → P → IsTrue true ↔ P
yes_where P p = (λ _. p, λ _. refl)

pub no_where : (P : Type 0) → (P → ⊥) → IsTrue false ↔ P
no_where P none = (λ t. absurd (true≢false (sym t)), λ p. absurd (none p))

pub denied : (answer : Bool) (P : Type 0) → (IsTrue answer ↔ P) → answer ≡ false → P → ⊥
denied answer P says is p = true≢false (sym (says.1 p) ∙ is)

-- ---- numbers

module _ (run : Run) (number : ℕ) where
  pub has_no_number : number < run.first → HasNumber run number → ⊥
  has_no_number below h = absurd (omega (arith, h.2))

  -- a number is in the run where its way from the first one is so many steps
  pub number_is_there : run.first ≤ number → (number - run.first) % run.step ≡ 0 → (number - run.first) / run.step < run.count → HasNumber run number
  number_is_there from rest few =
      let e : run.first + (number - run.first) / run.step * run.step ≡ number = omega (arith, div-add-mod (number - run.first) run.step, rest) in
      ((number - run.first) / run.step, few, e)

  way_of : (h : HasNumber run number) → number - run.first ≡ h.0 * run.step
  way_of h = omega (arith, h.2)

  pub no_rest : HasNumber run number → (number - run.first) % run.step ≡ 0
  no_rest h = ap (λ n. n % run.step) (way_of h) ∙ mul-mod_left h.0 run.step

  pub few_steps : HasNumber run number → (number - run.first) / run.step < run.count
  few_steps h =
      let e : (number - run.first) / run.step ≡ h.0 = ap (λ n. n / run.step) (way_of h) ∙ mul-div_cancel h.0 run.moves in
      omega (arith, e, h.1)

pub meet_sym : (left right : Run) → Meet left right → Meet right left
meet_sym left right h = (h.0, h.2, h.1)

-- a number that both runs have stands among the first ones of the other run that reach this one, so many as this one's step says
module _ (left right : Run) (first : ℕ) (behind : left.first ≤ right.first + first * right.step) where
  abbrev pub Early : Type 0
  Early = (place : ℕ) × (first ≤ place) × (place < right.count) × (place < first + left.step) × HasNumber left (right.first + place * right.step)

  pub early : (j : ℕ) → first ≤ j → j < right.count → HasNumber left (right.first + j * right.step) → Early
  early j from below h =
      let s = left.step in
      let t = right.step in
      let q = (j - first) / s in
      let r = (j - first) % s in
      let parts : j ≡ first + (r + s * q) = omega (arith, div-add-mod (j - first) s) in
      let spread : (first + (r + s * q)) * t ≡ (first + r) * t + q * t * s = omega arith in
      let way : left.first + h.0 * s ≡ right.first + ((first + r) * t + q * t * s) = h.2 ∙ ap (λ n. right.first + n) (ap (λ n. n * t) parts ∙ spread) in
      let more : first * t ≤ (first + r) * t = mul-le-mul_right t (omega arith) in
      let le : q * t ≤ h.0 = le_of_mul-le-mul_right (omega (arith, way, more, behind)) left.moves in
      let back : h.0 ≡ h.0 - q * t + q * t = omega (arith, le) in
      let apart : (h.0 - q * t + q * t) * s ≡ (h.0 - q * t) * s + q * t * s = omega arith in
      let there : left.first + (h.0 - q * t) * s ≡ right.first + (first + r) * t = omega (arith, way, ap (λ n. n * s) back, apart) in (
        first + r,
        omega arith,
        omega (arith, parts, below),
        omega (arith, mod-lt (j - first) left.moves),
        (h.0 - q * t, omega (arith, h.1), there),
      )

-- no number of the other run that stands before this one is in it
pub not_before : (left right : Run) (first : ℕ) → (0 < first → right.first + (first - 1) * right.step < left.first) → (j : ℕ) → j < first → HasNumber left (right.first + j * right.step) → ⊥
not_before left right first before j below h =
    let le : j * right.step ≤ (first - 1) * right.step = mul-le-mul_right right.step (omega arith) in
    absurd (omega (arith, le, h.2, before (omega arith)))

-- none of the numbers that were tried, and of the others none that is not behind an early one
module _ (left right : Run) (first place : ℕ) (none : (j : ℕ) → first ≤ j → j < place → HasNumber left (right.first + j * right.step) → ⊥) where
  pub none_more : (HasNumber left (right.first + place * right.step) → ⊥) → (j : ℕ) → first ≤ j → j < place + 1 → HasNumber left (right.first + j * right.step) → ⊥
  none_more not j from below h = step (nat_lt j place) refl
    where
      step : (b : Bool) → nat_lt j place ≡ b → ⊥
      step true is = none j from (ltb-true j place is) h
      step false is =
          let last : j ≡ place = omega (arith, below, ltb-false j place is) in
          not (subst (λ n. HasNumber left (right.first + n * right.step)) last h)

  pub no_meeting : (0 < first → right.first + (first - 1) * right.step < left.first) → left.first ≤ right.first + first * right.step
      → ((j : ℕ) → j < right.count → j < first + left.step → j < place) → Meet left right → ⊥
  no_meeting before behind ends h = step (nat_lt h.2.0 first) refl
    where
      there : HasNumber left (right.first + h.2.0 * right.step)
      there = subst (λ n. HasNumber left n) (sym h.2.2) h.1

      step : (b : Bool) → nat_lt h.2.0 first ≡ b → ⊥
      step true is = not_before left right first before h.2.0 (ltb-true h.2.0 first is) there
      step false is =
          let e = early left right first behind h.2.0 (ltb-false h.2.0 first is) h.2.1 there in
          none e.0 e.1 (ends e.0 e.2 e.3) e.4
