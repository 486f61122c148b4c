-- What the calls of a body come to, one by one, and the gates by their bodies.
use Rattle.std.proofs.Common.{◌≡◌, ℕ, zero, suc, ◌+◌, ◌<◌, ◌≤◌, List, [], ◌∷◌, ◌++◌, length, take, get_or, refl, sym, ap, subst, ◌∙◌, arith, append_assoc, length-take, inl, inr, ◌⊎◌, Some, None}
use Rattle.std.proofs.lemmas.Bool.{cases_lt}
use Rattle.std.proofs.lemmas.List.{take_more}
use Rattle.std.specs.Prelude.{slice_get, if◌then◌else◌, IfOk, Result}
use Rattle.qt_gate_calls.specs.declared.body.BodyCall.{BodyCall}
use Rattle.qt_gate_calls.specs.declared.body.GateBody.{GateBody}
use Rattle.qt_gate_calls.specs.declared.body.GateModifier.{GateModifier}
use Rattle.qt_gate_calls.specs.declared.body.Called.{Called}
use Rattle.qt_gate_calls.specs.declared.body.Called.TheVariants as called
use Rattle.qt_instructions.specs.declared.reference.QubitRef.{QubitRef}
use Rattle.qt_primitives.specs.declared.unit.Argument.{Argument}
use Rattle.qt_primitives.specs.declared.unit.Controls.{Controls}
use Rattle.qt_modify.specs.declared.unit.Steps.{Steps}
use Rattle.qt_primitives.specs.declared.unit.UnitPrimitive.{UnitPrimitive}
use Rattle.qt_modify.specs.Expansions.{Expanded, GateExpansion, GateExpansions, with_primitives, modified, inner_controls, inner_qubits, call_expansion, then_rest, nothing_after, body_call_expansion, calls_expansion, expansions_of}
use Rattle.qt_modify.specs.Calls.{reached}
use Rattle.qt_modify.specs.Needs.{are_idle}
use Rattle.qt_modify.proofs.Numbers.{gate_expands, no_gate_expands, expands_before}

-- steps and primitives
abbrev pub expanded : Steps → List UnitPrimitive → Expanded
expanded steps primitives = record { steps = steps; primitives = primitives }

no_more : (ps : List UnitPrimitive) → ps ++ [] ≡ ps
no_more [] = refl
no_more (p ∷ ps) = ap (λ t. p ∷ t) (no_more ps)

module _ (e : GateExpansions) (given : List Argument) (cs : Controls) (qs : List QubitRef) where
  calls_last : (calls : List BodyCall) (c : BodyCall) (s0 s1 s2 : Steps) (ps more : List UnitPrimitive)
      → calls_expansion e calls given cs qs s0 ≡ expanded s1 ps → body_call_expansion e c given cs qs s1 ≡ expanded s2 more
      → calls_expansion e (calls ++ c ∷ []) given cs qs s0 ≡ expanded s2 (ps ++ more)
  calls_last [] c s0 s1 s2 ps more f g =
      ap (λ s. then_rest (body_call_expansion e c given cs qs s) nothing_after) (ap (λ (x : Expanded). x.steps) f)
      ∙ ap (λ (x : Expanded). then_rest x nothing_after) g
      ∙ ap (expanded s2) (no_more more ∙ ap (λ t. t ++ more) (ap (λ (x : Expanded). x.primitives) f))
  calls_last (x ∷ calls) c s0 s1 s2 ps more f g =
      let one : Expanded = body_call_expansion e x given cs qs s0 in
      let rest : Expanded = calls_expansion e calls given cs qs one.steps in
      ap (λ (t : Expanded). expanded t.steps (one.primitives ++ t.primitives))
      (calls_last calls c one.steps s1 s2 rest.primitives more (ap (λ s. expanded s rest.primitives) (ap (λ (t : Expanded). t.steps) f)) g)
      ∙ ap (expanded s2)
      (sym (append_assoc one.primitives rest.primitives more) ∙ ap (λ t. t ++ more) (ap (λ (t : Expanded). t.primitives) f))

  pub one_more_call : (calls : List BodyCall) (n : ℕ) (c : BodyCall) (s0 s1 s2 : Steps) (ps more new : List UnitPrimitive)
      → n < length calls
      → c ≡ get_or calls n c → calls_expansion e (take n calls) given cs qs s0 ≡ expanded s1 ps
      → body_call_expansion e c given cs qs s1 ≡ expanded s2 more → new ≡ ps ++ more
      → calls_expansion e (take (n + 1) calls) given cs qs s0 ≡ expanded s2 new
  one_more_call calls n c s0 s1 s2 ps more new h b f g w =
      let t : take (n + 1) calls ≡ take n calls ++ c ∷ [] = take_more calls n c h ∙ ap (λ x. take n calls ++ x ∷ []) (sym b) in
      ap (λ (xs : List BodyCall). calls_expansion e xs given cs qs s0) t
      ∙ calls_last (take n calls) c s0 s1 s2 ps more f g
      ∙ ap (expanded s2) (sym w)

-- ---- gates by number

pub at_gate : (gates : List GateBody) (k : ℕ) (body : GateBody) (calls : List BodyCall) (given : List Argument) (cs : Controls)
    (qs : List QubitRef) (steps : Steps) → slice_get gates k ≡ Some body → calls ≡ body.calls
    → calls_expansion (expansions_of (take k gates)) calls given cs qs steps ≡ (expansions_of gates k).expander given cs qs steps
at_gate gates k body calls given cs qs steps e c =
    ap (λ (t : List BodyCall). calls_expansion (expansions_of (take k gates)) t given cs qs steps) c
    ∙ sym (ap (λ (x : GateExpansion). x.expander given cs qs steps) (gate_expands gates k body e))

past_all : (gates : List GateBody) (k : ℕ) → slice_get gates k ≡ None → length gates ≤ k
past_all [] k e = omega arith
past_all (g ∷ gates) zero e = absurd (cc)
past_all (g ∷ gates) (suc k) e =
    let h : length gates ≤ k = past_all gates k e in
    omega arith

pub at_no_gate : (gates : List GateBody) (k : ℕ) (given : List Argument) (cs : Controls) (qs : List QubitRef) (steps : Steps)
    (out : List UnitPrimitive) → slice_get gates k ≡ None → out ≡ []
    → (expansions_of gates k).expander given cs qs steps ≡ expanded steps out
at_no_gate gates k given cs qs steps out e o =
    ap (λ (x : GateExpansion). x.expander given cs qs steps) (no_gate_expands gates k (past_all gates k e)) ∙ ap (expanded steps) (sym o)

pub inside : (gates : List GateBody) (k : ℕ) (body : GateBody) → slice_get gates k ≡ Some body → k < length gates
inside [] k body e = absurd (cc)
inside (g ∷ gates) zero body e = omega arith
inside (g ∷ gates) (suc k) body e =
    let h : k < length gates = inside gates k body e in
    omega arith

pub fewer : (gates : List GateBody) (k : ℕ) → k < length gates → length (take k gates) < length gates
fewer gates k h = simp length-take (omega arith)

pub same_as : {E : Type 0} (r : Result (List UnitPrimitive) E) (x y : Expanded) (s : Steps) → x ≡ y
    → IfOk r (λ ps. x ≡ expanded s ps) → IfOk r (λ ps. y ≡ expanded s ps)
same_as r x y s e h = subst (λ (z : Expanded). IfOk r (λ ps. z ≡ expanded s ps)) e h

-- ---- the gates that a call reaches

abbrev under : List GateModifier → List Argument → Controls → List QubitRef → Steps → GateExpansion → Expanded
under ms given cs qs steps x =
    if are_idle ms then nothing_after steps
    else with_primitives (modified ms) (x.expander given (inner_controls ms qs cs) (inner_qubits ms qs) steps)

same_gate : (gates : List GateBody) (k : ℕ) → expansions_of (take (suc k) gates) k ≡ expansions_of gates k
same_gate gates k = by_place (cases_lt k (length gates))
  where
    short : length (take (suc k) gates) ≤ length gates
    short = simp length-take (omega arith)

    by_place : (k < length gates) ⊎ (length gates ≤ k) → expansions_of (take (suc k) gates) k ≡ expansions_of gates k
    by_place (inl h) = expands_before gates k (suc k) (omega arith) h
    by_place (inr h) = no_gate_expands (take (suc k) gates) k (omega (arith, short, h)) ∙ sym (no_gate_expands gates k h)

pub reached_expand : (gates : List GateBody) (ms : List GateModifier) (gate : Called) (given : List Argument) (cs : Controls)
    (qs : List QubitRef)
    (steps : Steps) → call_expansion (expansions_of (reached gates gate)) ms gate given cs qs steps
    ≡ call_expansion (expansions_of gates) ms gate given cs qs steps
reached_expand gates ms called.U given cs qs steps = refl
reached_expand gates ms called.GlobalPhase given cs qs steps = refl
reached_expand gates ms (called.Gate k) given cs qs steps = ap (under ms given cs qs steps) (same_gate gates k)

pub all_taken : (gates : List GateBody) (k : ℕ) → length gates ≤ k → take (suc k) gates ≡ gates
all_taken [] k h = refl
all_taken (g ∷ gates) zero h = absurd (omega arith)
all_taken (g ∷ gates) (suc k) h = ap (λ t. g ∷ t) (all_taken gates k (omega arith))
