-- What is assigned to (OpenQASM 3.0 live specification, "Classical instructions" and "Built-in quantum instructions", measurement; Cross
-- et al. 2022): a variable, an element of an array, or bits of one. A target is judged after the right side.
use Rattle.std.specs.Prelude.{ℕ, ◌&&◌, Bool, true, false, not, List, [], ◌∷◌, map, Option, Some, None, Ok, Err}
use Rattle.qt_const_rules.specs.declared.modes.Mode.TheVariants as mode
use Rattle.qt_names.specs.Entries.{Name}
use Rattle.qt_names.specs.Scopes.{finding}
use Rattle.qt_names.specs.declared.named.Named.{Named}
use Rattle.qt_names.specs.declared.named.What.{What}
use Rattle.qt_names.specs.declared.named.What.TheVariants as what
use Rattle.qt_tree.specs.declared.place.Place.{Place}
use Rattle.qt_tree.specs.declared.refusal.Cause.TheVariants as cause
use Rattle.qt_tree.specs.declared.refusal.TextRefusal.TheVariants as refusal
use Rattle.qt_tree.specs.declared.statement.Target.{Target}
use Rattle.qt_typed.specs.declared.call.TypedQubits.{TypedQubits}
use Rattle.qt_typed.specs.declared.expression.TypedExpr.{TypedExpr}
use Rattle.qt_typed.specs.declared.expression.TypedExpr.TheVariants.{Constant}
use Rattle.qt_typed.specs.declared.expression.TypedTarget.{TypedTarget}
use Rattle.qt_typed.specs.declared.expression.TypedVariable.{TypedVariable}
use Rattle.qt_typed.specs.declared.expression.TypedVariable.TheVariants as variable
use Rattle.qt_value.specs.Types.{width_of}
use Rattle.qt_typing.specs.declared.indexes.Steps.{Steps}
use Rattle.qt_typing.specs.declared.indexes.Storage.{Storage}
use Rattle.qt_typing.specs.declared.names.Names.{Names}
use Rattle.qt_typing.specs.Checked.{Checked, and_then, unless}
use Rattle.qt_typing.specs.Indexes.{IndexPart, Reached, all_indexes, reached, steps_from}
use Rattle.qt_typing.specs.Expressions.{or_unfit, storage_of, kind_of, index_part}
use Rattle.qt_typing.specs.Qubits.{outcomes_fit}

unfoldable pub target_in : Names → Place → Storage → List IndexPart → Checked TypedTarget
target_in names place it indexes =
    and_then (reached names mode.Plain place it it.lengths indexes) (λ (r : Reached).
    and_then (steps_from names mode.Plain place [] (kind_of r.variable) r.rest) (λ (s : Steps).
    Ok (record { variable = r.variable; steps = s.steps; kind = s.kind })))

unfoldable pub target_of_kind : Names → Place → Name → List IndexPart → What → Named → Checked TypedTarget
target_of_kind names place name indexes what.Constant it = Err (refusal.E11 place cause.Target)
target_of_kind names place name indexes _ it = and_then (or_unfit place name (storage_of it)) (λ v. target_in names place v indexes)

unfoldable pub target_at : Place → Target → Names → Checked TypedTarget
target_at place target names =
    and_then (finding names.scopes target.name place) (λ it.
    target_of_kind names place target.name (all_indexes (map (map (index_part names place)) target.brackets)) it.what it)

-- ---- targets of measurements

abbrev pub is_constant_form : TypedExpr → Bool
is_constant_form (Constant x) = true
is_constant_form _ = false

abbrev pub all_constant : List TypedExpr → Bool
all_constant [] = true
all_constant (form ∷ rest) = is_constant_form form && all_constant rest

-- each index of an array is constant
unfoldable pub is_fixed_variable : TypedVariable → Bool
is_fixed_variable (variable.Slot kind slot) = true
is_fixed_variable (variable.Element kind slot lengths indexes) = all_constant indexes

-- a target of so many outcomes
unfoldable pub measured_target : Place → TypedQubits → Target → Names → Checked TypedTarget
measured_target place of target names =
    and_then (target_at place target names) (λ (t : TypedTarget).
    and_then (unless (not (is_fixed_variable t.variable)) (refusal.E11 place cause.Register)) (λ _.
    and_then (outcomes_fit place (width_of t.kind) of) (λ _. Ok t)))
