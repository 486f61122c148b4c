-- What a gate is by number follows from its body and from the gates before it.
use Rattle.std.proofs.Common.{◌≡◌, ℕ, zero, suc, ◌+◌, ◌<◌, ◌≤◌, List, [], ◌∷◌, length, take, refl, sym, ap, ◌∙◌, arith, Some}
use Rattle.std.specs.Prelude.{slice_get}
use Rattle.qt_gate_calls.specs.declared.body.GateBody.{GateBody}
use Rattle.qt_gate_calls.specs.Numbered.{if_number, numbered_from}
use Rattle.qt_modify.specs.Expansions.{body_expansion, no_expansion, expansions_of}

number_same : {A : Type 0} (n : ℕ) (a b : A) → if_number n n a b ≡ a
number_same zero a b = refl
number_same (suc n) a b = number_same n a b

number_other : {A : Type 0} (n i : ℕ) (a b : A) → (n ≡ i → ⊥) → if_number n i a b ≡ b
number_other zero zero a b h = absurd (h refl)
number_other zero (suc i) a b h = refl
number_other (suc n) zero a b h = refl
number_other (suc n) (suc i) a b h = number_other n i a b (λ e. h (ap suc e))

module _ {A : Type 0} (of : (ℕ → A) → GateBody → A) where
  next : ℕ → GateBody → (ℕ → A) → ℕ → A
  next n body before i = if_number n i (of before body) (before i)

  stays : (bodies : List GateBody) (n : ℕ) (before : ℕ → A) (i : ℕ) → i < n → numbered_from of n bodies before i ≡ before i
  stays [] n before i h = refl
  stays (body ∷ bodies) n before i h =
      stays bodies (suc n) (λ i. if_number n i (of before body) (before i)) i (omega arith)
      ∙ number_other n i (of before body) (before i) (λ e. omega arith)

  -- the gate with a number, by those before it
  unfolds_from : (bodies : List GateBody) (n : ℕ) (before : ℕ → A) (k : ℕ) (body : GateBody) → slice_get bodies k ≡ Some body
      → numbered_from of n bodies before (n + k) ≡ of (numbered_from of n (take k bodies) before) body
  unfolds_from [] n before k body e = absurd (cc)
  unfolds_from (first ∷ bodies) n before zero body e =
      let z : n + 0 ≡ n = omega arith in
      let later : ℕ → A = λ i. if_number n i (of before first) (before i) in
      ap (numbered_from of (suc n) bodies later) z
      ∙ stays bodies (suc n) later n (omega arith)
      ∙ number_same n (of before first) (before n)
      ∙ ap (of before) (some_is first body e)
    where
      some_is : (x y : GateBody) → Some x ≡ Some y → x ≡ y
      some_is x y e = cc
  unfolds_from (first ∷ bodies) n before (suc k) body e =
      let z : n + suc k ≡ suc n + k = omega arith in
      ap (numbered_from of (suc n) bodies (λ i. if_number n i (of before first) (before i))) z
      ∙ unfolds_from bodies (suc n) (λ i. if_number n i (of before first) (before i)) k body e

  past_from : (bodies : List GateBody) (n : ℕ) (before : ℕ → A) (k : ℕ) → length bodies ≤ k
      → numbered_from of n bodies before (n + k) ≡ before (n + k)
  past_from [] n before k h = refl
  past_from (first ∷ bodies) n before zero h = absurd (omega arith)
  past_from (first ∷ bodies) n before (suc k) h =
      let z : n + suc k ≡ suc n + k = omega arith in
      let later : ℕ → A = λ i. if_number n i (of before first) (before i) in
      ap (numbered_from of (suc n) bodies later) z
      ∙ past_from bodies (suc n) later k (omega arith)
      ∙ number_other n (suc n + k) (of before first) (before (suc n + k)) (λ e. omega arith)
      ∙ ap before (sym z)

-- ---- expansions

pub gate_expands : (gates : List GateBody) (k : ℕ) (body : GateBody) → slice_get gates k ≡ Some body
    → expansions_of gates k ≡ body_expansion (expansions_of (take k gates)) body
gate_expands gates k body e =
    let z : k ≡ 0 + k = omega arith in
    ap (expansions_of gates) z ∙ unfolds_from body_expansion gates 0 (λ i. no_expansion) k body e

pub no_gate_expands : (gates : List GateBody) (k : ℕ) → length gates ≤ k → expansions_of gates k ≡ no_expansion
no_gate_expands gates k h =
    let z : k ≡ 0 + k = omega arith in
    ap (expansions_of gates) z ∙ past_from body_expansion gates 0 (λ i. no_expansion) k h

take_take : (gates : List GateBody) (i k : ℕ) → i < k → take i (take k gates) ≡ take i gates
take_take [] zero zero h = refl
take_take [] zero (suc k) h = refl
take_take [] (suc i) zero h = absurd (omega arith)
take_take [] (suc i) (suc k) h = refl
take_take (g ∷ gates) zero zero h = refl
take_take (g ∷ gates) zero (suc k) h = refl
take_take (g ∷ gates) (suc i) zero h = absurd (omega arith)
take_take (g ∷ gates) (suc i) (suc k) h = ap (λ t. g ∷ t) (take_take gates i k (omega arith))

found : (gates : List GateBody) (k : ℕ) → k < length gates → (body : GateBody) × (slice_get gates k ≡ Some body)
found [] k h = absurd (omega arith)
found (g ∷ gates) zero h = (g, refl)
found (g ∷ gates) (suc k) h = found gates k (omega arith)

found_before : (gates : List GateBody) (i k : ℕ) (body : GateBody) → i < k → slice_get gates i ≡ Some body
    → slice_get (take k gates) i ≡ Some body
found_before [] i k body h e = absurd (cc)
found_before (g ∷ gates) i zero body h e = absurd (omega arith)
found_before (g ∷ gates) zero (suc k) body h e = e
found_before (g ∷ gates) (suc i) (suc k) body h e = found_before gates i k body (omega arith) e

-- gates behind those that are seen don't matter
pub expands_before : (gates : List GateBody) (i k : ℕ) → i < k → i < length gates → expansions_of (take k gates) i ≡ expansions_of gates i
expands_before gates i k h l =
    let f : (body : GateBody) × (slice_get gates i ≡ Some body) = found gates i l in
    gate_expands (take k gates) i f.0 (found_before gates i k f.0 h f.1)
    ∙ ap (λ (seen : List GateBody). body_expansion (expansions_of seen) f.0) (take_take gates i k h)
    ∙ sym (gate_expands gates i f.0 f.1)
