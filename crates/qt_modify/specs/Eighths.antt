-- The angles of primitives in numbers of π/4 (OpenQASM 3.0 live specification, "Gates", built-in gates; Cross et al. 2022; that all
-- angles are multiples of π/4 is this profile's). A call is refused with the first fixed angle that is none: in the order of its
-- primitives, then of θ, φ, λ.
use Rattle.std.specs.Prelude.{◌≡◌, ℤ, List, [], ◌∷◌, map, Option, Some, None, unwrap_or, Result, Ok, Err}
use Rattle.qt_phase.specs.Phase.{eighth_of}
use Rattle.qt_gate_calls.specs.Faults.{unless_eighth, or_later}
use Rattle.qt_instructions.specs.declared.primitive.Primitive.{Primitive}
use Rattle.qt_instructions.specs.declared.primitive.Primitive.TheVariants as primitive
use Rattle.qt_instructions.specs.declared.reference.AngleRef.{AngleRef}
use Rattle.qt_instructions.specs.declared.reference.AngleRef.TheVariants.{Eighth, Work}
use Rattle.qt_tree.specs.declared.place.Place.{Place}
use Rattle.qt_primitives.specs.declared.unit.UnitAngle.{UnitAngle}
use Rattle.qt_primitives.specs.declared.unit.UnitAngle.TheVariants.{Fixed, Cell}
use Rattle.qt_primitives.specs.declared.unit.Action.{Action}
use Rattle.qt_primitives.specs.declared.unit.Action.TheVariants.{Turn, Phase}
use Rattle.qt_primitives.specs.declared.unit.Controls.{Controls}
use Rattle.qt_primitives.specs.declared.unit.UnitPrimitive.{UnitPrimitive}
use Rattle.qt_modify.specs.declared.expansion.Expansion.{Expansion}
use Rattle.qt_modify.specs.declared.expansion.ExpandRefusal.{ExpandRefusal}
use Rattle.qt_modify.specs.declared.expansion.ExpandRefusal.TheVariants.{Angle, OutOfMemory}
use Rattle.qt_modify.specs.Expansions.{Expanded}

-- ---- the units of the first fixed angle that is no multiple of π/4

abbrev pub wrong_angle : UnitAngle → Option ℤ
wrong_angle (Fixed units) = unless_eighth units (eighth_of units)
wrong_angle (Cell cell negated) = None

abbrev pub wrong_action : Action → Option ℤ
wrong_action (Turn q theta phi lambda) = or_later (wrong_angle theta) (or_later (wrong_angle phi) (wrong_angle lambda))
wrong_action (Phase gamma) = wrong_angle gamma

abbrev pub first_wrong : List UnitPrimitive → Option ℤ
first_wrong [] = None
first_wrong (p ∷ ps) = or_later (wrong_action p.action) (first_wrong ps)

-- ---- primitives whose fixed angles are multiples of π/4

abbrev pub angle_ref : UnitAngle → AngleRef
angle_ref (Fixed units) = Eighth (unwrap_or (eighth_of units) 0)
angle_ref (Cell cell negated) = Work cell negated

abbrev pub under_controls : Controls → Action → Primitive
under_controls cs (Turn q theta phi lambda) = primitive.Turn cs.ones cs.zeros q (angle_ref theta) (angle_ref phi) (angle_ref lambda)
under_controls cs (Phase gamma) = primitive.Phase cs.ones cs.zeros (angle_ref gamma)

abbrev pub with_eighths : UnitPrimitive → Primitive
with_eighths p = under_controls p.controls p.action

-- ---- the answer to a call

abbrev pub finished : Expanded → Expansion
finished x = record { steps = x.steps.steps; primitives = map with_eighths x.primitives }

-- the steps and primitives, or the refusal; only want of memory may come in place of these
abbrev pub Answers : Expanded → Place → Result Expansion ExpandRefusal → Type 0
Answers x place (Ok expansion) = (first_wrong x.primitives ≡ None) × (expansion ≡ finished x)
Answers x place (Err (Angle at units)) = (first_wrong x.primitives ≡ Some units) × (at ≡ place)
Answers x place (Err OutOfMemory) = Unit {0}
