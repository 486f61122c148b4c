-- The primitives of a gate call applied one after another, each by its own matrix (OpenQASM 3.0 live specification, "Gates", applying gates;
-- Cross et al. 2022; that all angles are multiples of π/4 is this profile's). A run of primitives goes up to the first with an angle that is
-- no multiple of π/4.
use Rattle.std.specs.Prelude.{Bool, true, false, List, [], ◌∷◌, Option, Some, None}
use Rattle.qt_tree.specs.declared.place.Place.{Place}
use Rattle.qt_gate_calls.specs.Faults.{with_eighths}
use Rattle.qt_gate_calls.specs.Primitives.{Primitive}
use Rattle.qt_meaning.specs.Values.{BadAngle, or_fault}
use Rattle.qt_meaning.specs.Points.{On, Faulted, Run, leaf, with_result}
use Rattle.qt_code.specs.Tail.{did}
use Rattle.qt_modify_laws.specs.Running.{UnitCells}

abbrev pub primitives_run : List Primitive → Place → Run
primitives_run [] place p = leaf On p
primitives_run (x ∷ xs) place p = with_result (or_fault BadAngle (with_eighths x)) place (λ e q. primitives_run xs place (did e place q)) p

-- no primitive is applied where an angle of one can't be reckoned
abbrev pub where_reckoned : Bool → Place → Run → Run
where_reckoned true place run p = run p
where_reckoned false place run p = leaf (Faulted BadAngle place) p

-- what follows the steps of phase arithmetic, which may fault
abbrev pub after_steps : Option UnitCells → Place → (UnitCells → Run) → Run
after_steps (Some cells) place next p = next cells p
after_steps None place next p = leaf (Faulted BadAngle place) p
