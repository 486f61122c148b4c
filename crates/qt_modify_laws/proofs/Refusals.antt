-- The refusal of a call is the first angle that is known before the run and no multiple of π/4.
use Rattle.std.proofs.Common.{◌≡◌, ℕ, true, false, List, [], ◌∷◌, map, refl, ap, ◌∙◌, Option, Some, None}
use Rattle.std.specs.Prelude.{ℤ}
use Rattle.qt_gate_calls.specs.Faults as faults
use Rattle.qt_gate_calls.specs.Faults.{wrong, or_later}
use Rattle.qt_gate_calls.specs.Primitives.{Primitive}
use Rattle.qt_instructions.specs.declared.reference.QubitRef.{QubitRef}
use Rattle.qt_primitives.specs.declared.unit.UnitAngle.{UnitAngle}
use Rattle.qt_primitives.specs.declared.unit.UnitAngle.TheVariants as angle
use Rattle.qt_primitives.specs.declared.unit.Action.{Action}
use Rattle.qt_primitives.specs.declared.unit.Action.TheVariants.{Turn, Phase}
use Rattle.qt_primitives.specs.declared.unit.UnitPrimitive.{UnitPrimitive}
use Rattle.qt_modify.specs.Reckoning.{none_known}
use Rattle.qt_modify.specs.Calls.{use_expansion}
use Rattle.qt_modify.specs.Eighths.{wrong_angle, wrong_action, first_wrong}
use Rattle.qt_modify_laws.specs.Laws.{angle_at, action_at, primitive_at, RefusalIsFirstWrong}
use Rattle.qt_modify_laws.proofs.Expanding.{fixed_angles_are_known}

wrong_at : (a : UnitAngle) → wrong_angle a ≡ wrong (angle_at none_known a)
wrong_at (angle.Fixed z) = refl
wrong_at (angle.Cell c false) = refl
wrong_at (angle.Cell c true) = refl

or_assoc : (a b c : Option ℤ) → or_later (or_later a b) c ≡ or_later a (or_later b c)
or_assoc None b c = refl
or_assoc (Some u) b c = refl

action_wrong : (place : QubitRef → ℕ) (ones zeros : List ℕ) (a : Action) (later : List Primitive)
    → or_later (wrong_action a) (faults.first_wrong later) ≡ faults.first_wrong (action_at place none_known ones zeros a ∷ later)
action_wrong place ones zeros (Turn q theta phi lambda) later =
    or_assoc (wrong_angle theta) (or_later (wrong_angle phi) (wrong_angle lambda)) (faults.first_wrong later)
    ∙ ap (or_later (wrong_angle theta)) (or_assoc (wrong_angle phi) (wrong_angle lambda) (faults.first_wrong later))
    ∙ ap (λ t. or_later t (or_later (wrong_angle phi) (or_later (wrong_angle lambda) (faults.first_wrong later)))) (wrong_at theta)
    ∙ ap (λ t. or_later (wrong (angle_at none_known theta)) (or_later t (or_later (wrong_angle lambda) (faults.first_wrong later))))
    (wrong_at phi)
    ∙ ap (λ t. or_later (wrong (angle_at none_known theta)) (or_later (wrong (angle_at none_known phi))
    (or_later t (faults.first_wrong later))))
    (wrong_at lambda)
action_wrong place ones zeros (Phase gamma) later = ap (λ t. or_later t (faults.first_wrong later)) (wrong_at gamma)

same_refusal : (place : QubitRef → ℕ) (ps : List UnitPrimitive)
    → first_wrong ps ≡ faults.first_wrong (map (primitive_at place none_known) ps)
same_refusal place [] = refl
same_refusal place (p ∷ ps) =
    ap (or_later (wrong_action p.action)) (same_refusal place ps)
    ∙ action_wrong place (map place p.controls.ones) (map place p.controls.zeros) p.action (map (primitive_at place none_known) ps)

pub refusal_is_first_wrong : RefusalIsFirstWrong
refusal_is_first_wrong place z used given qs first =
    same_refusal place (use_expansion used given qs first).primitives ∙ ap faults.first_wrong
    (fixed_angles_are_known place z used given qs first)
