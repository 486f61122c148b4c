-- Definitions by a gate's number: a body calls only gates that stand before it (OpenQASM 3.0 live specification, "Gates", hierarchically
-- defined unitary gates; Cross et al. 2022). What a gate is follows from its body and from what the gates before it are.
use Rattle.std.specs.Prelude.{ℕ, zero, suc, List, [], ◌∷◌}
use Rattle.qt_gate_calls.specs.declared.body.GateBody.{GateBody}

abbrev pub if_number : {A : Type 0} → ℕ → ℕ → A → A → A
if_number zero zero a b = a
if_number (suc n) (suc i) a b = if_number n i a b
if_number _ _ a b = b

-- what the gates are, by number, where the first body has the number n and `before` says what those before it are
abbrev pub numbered_from : {A : Type 0} → ((ℕ → A) → GateBody → A) → ℕ → List GateBody → (ℕ → A) → (ℕ → A)
numbered_from of n [] before = before
numbered_from of n (body ∷ bodies) before = numbered_from of (suc n) bodies (λ i. if_number n i (of before body) (before i))

abbrev pub numbered : {A : Type 0} → ((ℕ → A) → GateBody → A) → A → List GateBody → ℕ → A
numbered of unknown bodies = numbered_from of 0 bodies (λ i. unknown)
