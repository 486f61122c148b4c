-- The refusal of an expansion is the first wrong angle of the gate call.
use Rattle.std.proofs.Common.{◌≡◌, ℕ, zero, suc, ◌<◌, List, [], ◌∷◌, map, Option, Some, None, refl, sym, ap, ◌∙◌, arith}
use Rattle.std.specs.Prelude.{ℤ, Result, Ok, Err}
use Rattle.std.specs.Option.{option_or}
use Rattle.qt_tree.specs.declared.place.Place.{Place}
use Rattle.qt_gate_calls.specs.Units.{KnownUnits}
use Rattle.qt_gate_calls.specs.Primitives.{no_controls, call_primitives, primitives_of}
use Rattle.qt_gate_calls.specs.Faults as faults
use Rattle.qt_typed.specs.declared.call.GateUse.{GateUse}
use Rattle.qt_typed.specs.declared.expression.TypedPhase.{TypedPhase}
use Rattle.qt_primitives.specs.declared.unit.Argument.{Argument}
use Rattle.qt_modify.specs.declared.expansion.Expansion.{Expansion}
use Rattle.qt_modify.specs.declared.expansion.ExpandRefusal.TheVariants.{Angle}
use Rattle.qt_modify.specs.Reckoning.{none_known}
use Rattle.qt_modify.specs.Calls.{argument_of, fixed_phase, use_expansion}
use Rattle.qt_modify.specs.Eighths.{Answers, first_wrong}
use Rattle.qt_modify_laws.specs.Laws.{held_in}
use Rattle.qt_modify_laws.proofs.Refusals.{refusal_is_first_wrong}
use Rattle.qt_fixed_angles.specs.declared.wrong.WrongAngle.{WrongAngle}
use Rattle.qt_fixed_angles.specs.Angles.{wrong_units, with_place, use_angle, times_angle}
use Rattle.qt_fixed_angles.specs.Reached.{arguments_of}

held_units : (units : Option ℤ) → held_in none_known (argument_of units 0) ≡ units
held_units None = refl
held_units (Some units) = refl

same_arguments : (ps : List TypedPhase) → map (held_in none_known) (arguments_of ps) ≡ map fixed_phase ps
same_arguments [] = refl
same_arguments (p ∷ ps) =
    ap (λ u. u ∷ map (held_in none_known) (arguments_of ps)) (held_units (fixed_phase p)) ∙ ap (λ t. fixed_phase p ∷ t) (same_arguments ps)

units_are : (used : GateUse) → first_wrong (use_expansion used (arguments_of used.arguments) [] 0).primitives ≡ wrong_units used
unfolding wrong_units
units_are used =
    refusal_is_first_wrong (λ q. 0) refl used (arguments_of used.arguments) [] 0
    ∙ ap (λ (known : List KnownUnits). faults.first_wrong (call_primitives (primitives_of used.gates) used.modifiers used.gate known no_controls []))
    (same_arguments used.arguments)

pub none_wrong : (place : Place) (used : GateUse) (arguments : List Argument) (e : Expansion) → arguments ≡ arguments_of used.arguments
    → Answers (use_expansion used arguments [] 0) place (Ok e) → None ≡ use_angle place used
none_wrong place used arguments e is answers =
    sym (ap (with_place place) (sym (units_are used) ∙ ap (λ given. first_wrong (use_expansion used given [] 0).primitives) (sym is) ∙ answers.0))

pub some_wrong : (place at : Place) (units : ℤ) (used : GateUse) (arguments : List Argument) → arguments ≡ arguments_of used.arguments
    → Answers (use_expansion used arguments [] 0) place (Err (Angle at units))
    → Some (record { place = at; units = units }) ≡ use_angle place used
some_wrong place at units used arguments is answers =
    ap (λ p. Some (record { place = p; units = units })) answers.1
    ∙ sym (ap (with_place place) (sym (units_are used) ∙ ap (λ given. first_wrong (use_expansion used given [] 0).primitives) (sym is) ∙ answers.0))

same_again : (n : ℕ) (angle : Option WrongAngle) → option_or angle (times_angle n angle) ≡ angle
same_again n (Some angle) = refl
same_again zero None = refl
same_again (suc n) None = same_again n None

-- of some places the first is as good as all
pub some_times : (n : ℕ) (angle : Option WrongAngle) → 0 < n → times_angle n angle ≡ angle
some_times zero angle h = absurd (omega (arith, h))
some_times (suc n) angle h = same_again n angle
