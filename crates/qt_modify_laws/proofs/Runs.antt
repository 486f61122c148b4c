-- A run of the steps of an expansion: it makes the cells in which the primitives are those of the call, or some angle can't be reckoned.
use Rattle.std.proofs.Common.{◌≡◌, ℕ, ◌<◌, Bool, true, false, ◌&&◌, List, [], ◌∷◌, map, refl, sym, ap, subst, ◌∙◌, Option, Some, None}
use Rattle.std.specs.Prelude.{is_some}
use Rattle.qt_ring.proofs.RingLaws.{and_left, and_right}
use Rattle.qt_gate_calls.specs.Faults.{is_known, all_reckoned}
use Rattle.qt_gate_calls.specs.Primitives.{Turned, Phased, Primitive, no_controls, call_primitives, primitives_of}
use Rattle.qt_gate_calls.specs.Units.{KnownUnits}
use Rattle.qt_instructions.specs.declared.reference.QubitRef.{QubitRef}
use Rattle.qt_typed.specs.declared.call.GateUse.{GateUse}
use Rattle.qt_primitives.specs.declared.unit.Argument.{Argument}
use Rattle.qt_primitives.specs.declared.unit.Argument.TheVariants as argument
use Rattle.qt_modify.specs.declared.unit.Steps.{Steps}
use Rattle.qt_primitives.specs.declared.unit.UnitAngle.{UnitAngle}
use Rattle.qt_primitives.specs.declared.unit.UnitAngle.TheVariants as angle
use Rattle.qt_primitives.specs.declared.unit.Action.{Action}
use Rattle.qt_primitives.specs.declared.unit.Action.TheVariants.{Turn, Phase}
use Rattle.qt_primitives.specs.declared.unit.UnitPrimitive.{UnitPrimitive}
use Rattle.qt_modify.specs.Reckoning.{Cells}
use Rattle.qt_modify.specs.Expansions.{no_qubit}
use Rattle.qt_modify.specs.Calls.{use_expansion}
use Rattle.qt_modify_laws.specs.Laws.{held_in, Hold, IsKnown, angle_at, action_at, primitive_at, HaveKnown, primitives_at}
use Rattle.qt_modify_laws.specs.Running.{UnitCells, known_in, steps_run, IsBelow, AreBelow, RunsHold, RunsFault, RunsGivePrimitives}
use Rattle.qt_modify_laws.proofs.Keeping.{use_longer}
use Rattle.qt_modify_laws.proofs.Running.{run_keeps, run_holds, known_run, known_run_keeps, known_run_holds, run_faults}
use Rattle.qt_modify_laws.proofs.Expanding.{expansions_are_primitives, steps_are_needed}

-- ---- arguments hold the same in cells that agree before the first step

one_same : (n : ℕ) (cells more : Cells) → ((c : ℕ) → c < n → more c ≡ cells c) → (a : Argument) → IsBelow n a → held_in more a ≡ held_in cells a
one_same n cells more h (argument.Fixed units) b = refl
one_same n cells more h (argument.Cell c) b = h c b

held_same : (n : ℕ) (cells more : Cells) → ((c : ℕ) → c < n → more c ≡ cells c) → (given : List Argument) → AreBelow n given
    → map (held_in more) given ≡ map (held_in cells) given
held_same n cells more h [] b = refl
held_same n cells more h (a ∷ rest) b =
    ap (λ t. t ∷ map (held_in more) rest) (one_same n cells more h a b.0) ∙ ap (λ t. held_in cells a ∷ t) (held_same n cells more h rest b.1)

primitives_same : (n : ℕ) (cells more : Cells) → ((c : ℕ) → c < n → more c ≡ cells c) → (place : QubitRef → ℕ) (used : GateUse)
    (given : List Argument) (qs : List QubitRef) → AreBelow n given → primitives_at more place used given qs ≡ primitives_at cells place used given qs
primitives_same n cells more h place used given qs b =
    ap (λ (t : List KnownUnits). call_primitives (primitives_of used.gates) used.modifiers used.gate t no_controls (map place qs))
    (held_same n cells more h given b)

-- ---- angles that can be reckoned

known_of : (k : KnownUnits) → is_known k ≡ true → IsKnown k
known_of None e = absurd (cc)
known_of (Some z) e = tt

have_known : (ps : List Primitive) → all_reckoned ps ≡ true → HaveKnown ps
have_known [] e = tt
have_known (Turned ones zeros q a b c ∷ ps) e =
    let here = and_left (is_known a && is_known b && is_known c) (all_reckoned ps) e in
    let two = and_left (is_known a && is_known b) (is_known c) here in (
      (
        known_of a (and_left (is_known a) (is_known b) two),
        known_of b (and_right (is_known a) (is_known b) two),
        known_of c (and_right (is_known a && is_known b) (is_known c) here),
      ),
      have_known ps (and_right (is_known a && is_known b && is_known c) (all_reckoned ps) e),
    )
have_known (Phased ones zeros a ∷ ps) e =
    (known_of a (and_left (is_known a) (all_reckoned ps) e), have_known ps (and_right (is_known a) (all_reckoned ps) e))

angle_known : (cells : UnitCells) (a : UnitAngle) → is_known (angle_at (known_in cells) a) ≡ true
angle_known cells (angle.Fixed units) = refl
angle_known cells (angle.Cell c false) = refl
angle_known cells (angle.Cell c true) = refl

all_true : (a b c : Bool) → a ≡ true → b ≡ true → c ≡ true → (a && b && c) ≡ true
all_true true true true e f g = refl
all_true false b c e f g = e
all_true true false c e f g = f
all_true true true false e f g = g

both_true : (a b : Bool) → a ≡ true → b ≡ true → (a && b) ≡ true
both_true true b e f = f
both_true false b e f = e

-- where each cell holds some units, all angles are reckoned
action_reckoned : (cells : UnitCells) (place : QubitRef → ℕ) (ones zeros : List ℕ) (a : Action) (rest : List Primitive)
    → all_reckoned rest ≡ true → all_reckoned (action_at place (known_in cells) ones zeros a ∷ rest) ≡ true
action_reckoned cells place ones zeros (Turn q theta phi lambda) rest e =
    both_true _ _ (all_true _ _ _ (angle_known cells theta) (angle_known cells phi) (angle_known cells lambda)) e
action_reckoned cells place ones zeros (Phase gamma) rest e = both_true _ _ (angle_known cells gamma) e

reckoned_in : (cells : UnitCells) (place : QubitRef → ℕ) (us : List UnitPrimitive)
    → all_reckoned (map (primitive_at place (known_in cells)) us) ≡ true
reckoned_in cells place [] = refl
reckoned_in cells place (u ∷ us) =
    action_reckoned cells place (map place u.controls.ones) (map place u.controls.zeros) u.action
    (map (primitive_at place (known_in cells)) us) (reckoned_in cells place us)

-- ---- the laws

module _ (used : GateUse) (given : List Argument) (qs : List QubitRef) (first : ℕ) (below : AreBelow first given) where
  abbrev steps : Steps
  steps = (use_expansion used given qs first).steps

  keeps : (cells new : UnitCells) → steps_run steps cells ≡ Some new → (c : ℕ) → c < first → new c ≡ cells c
  keeps cells new e c l =
      let z : first ≡ steps.first = sym (use_longer used given qs first below).first in
      run_keeps steps.first steps.steps cells new e c (subst (λ (k : ℕ). c < k) z l)

  known_keeps : (cells : Cells) (c : ℕ) → c < first → known_run steps.first steps.steps cells c ≡ cells c
  known_keeps cells c l =
      let z : first ≡ steps.first = sym (use_longer used given qs first below).first in
      known_run_keeps steps.first steps.steps cells c (subst (λ (k : ℕ). c < k) z l)

  holds : (cells new : UnitCells) → steps_run steps cells ≡ Some new → Hold (known_in new) steps.first steps.steps
  holds cells new e = run_holds steps.first steps.steps cells new (use_longer used given qs first below).fits e

  gives : (place : QubitRef → ℕ) → place no_qubit ≡ 0 → (cells new : UnitCells) → steps_run steps cells ≡ Some new
      → map (primitive_at place (known_in new)) (use_expansion used given qs first).primitives ≡ primitives_at (known_in cells) place used given qs
  gives place z cells new e =
      expansions_are_primitives (known_in new) place z used given qs first (holds cells new e)
      ∙ primitives_same first (known_in cells) (known_in new) (λ c l. ap Some (keeps cells new e c l)) place used given qs below

  -- all angles are reckoned where a run ends
  ends : (place : QubitRef → ℕ) → place no_qubit ≡ 0 → (cells new : UnitCells) → steps_run steps cells ≡ Some new
      → true ≡ all_reckoned (primitives_at (known_in cells) place used given qs)
  ends place z cells new e =
      sym (reckoned_in new place (use_expansion used given qs first).primitives) ∙ ap all_reckoned (gives place z cells new e)

  -- and some isn't where it faults
  stops : (place : QubitRef → ℕ) → place no_qubit ≡ 0 → (cells : UnitCells) → steps_run steps cells ≡ None
      → all_reckoned (primitives_at (known_in cells) place used given qs) ≡ true → ⊥
  stops place z cells e k =
      let more : Cells = known_run steps.first steps.steps (known_in cells) in
      run_faults steps.first steps.steps cells e
      (steps_are_needed more place z used given qs first
      (known_run_holds steps.first steps.steps (known_in cells) (use_longer used given qs first below).fits)
      (subst HaveKnown (sym (primitives_same first (known_in cells) more (known_keeps (known_in cells)) place used given qs below))
      (have_known (primitives_at (known_in cells) place used given qs) k)))

  faults : (place : QubitRef → ℕ) → place no_qubit ≡ 0 → (cells : UnitCells)
      → is_some (steps_run steps cells) ≡ all_reckoned (primitives_at (known_in cells) place used given qs)
  faults place z cells = by (steps_run steps cells) refl (all_reckoned (primitives_at (known_in cells) place used given qs)) refl
    where
      by : (r : Option UnitCells) → steps_run steps cells ≡ r → (t : Bool)
          → all_reckoned (primitives_at (known_in cells) place used given qs) ≡ t → is_some r ≡ t
      by (Some new) e t f = ends place z cells new e ∙ f
      by None e true f = absurd (stops place z cells e f)
      by None e false f = refl

pub runs_hold : RunsHold
runs_hold used given qs first below cells new e = (holds used given qs first below cells new e, keeps used given qs first below cells new e)

pub runs_fault : RunsFault
runs_fault used given qs first below place z cells = faults used given qs first below place z cells

pub runs_give_primitives : RunsGivePrimitives
runs_give_primitives used given qs first below place z cells new e = gives used given qs first below place z cells new e
