-- What it is for a piece of code to store (flat code is this profile's; OpenQASM 3.0 live specification, "Classical instructions"). From its
-- first instruction on, whatever the work cells hold, the run is the same as that from the instruction behind the piece, where the slots are
-- those that the meaning says, with some work cells; or, where the meaning has a fault, it is the one leaf of this fault, with the place of the
-- statement, and nothing was stored.
use Rattle.std.specs.Prelude.{◌≡◌, ℕ, List, Ok, Err, Option}
use Rattle.qt_tree.specs.declared.place.Place.{Place}
use Rattle.qt_value.specs.OpTypes.{result_type}
use Rattle.qt_value.specs.declared.operators.Op.{Op}
use Rattle.qt_typed.specs.Types.{or_bool, type_of}
use Rattle.qt_typed.specs.declared.expression.TypedExpr.{TypedExpr}
use Rattle.qt_typed.specs.declared.expression.TypedTarget.{TypedTarget}
use Rattle.qt_meaning.specs.Expressions.{eval}
use Rattle.qt_meaning.specs.Places.{all_stored, loaded, location_of, stored}
use Rattle.qt_meaning.specs.Points.{Faulted, Point, leaf}
use Rattle.qt_meaning.specs.Statements.{optional_values}
use Rattle.qt_meaning.specs.Values.{Evaluated, and_then, converted_to, operated}
use Rattle.qt_instructions.specs.declared.parts.Parts.{Parts}
use Rattle.qt_code.specs.Cells.{Cells}
use Rattle.qt_code.specs.Tail.{tail}

-- the run from the instruction `at` and these cells is that from the instruction `to` at a point
pub record Continues (code : Parts) (p : Point) (at : ℕ) (cells : Cells) (q : Point) (to : ℕ) : Type 0 where
  pub new : Cells
  pub same : tail code at cells p ≡ tail code to new q

abbrev pub Storing : Parts → Place → Point → ℕ → Cells → ℕ → Evaluated (List ℕ) → Type 0
Storing code place p at cells to (Ok slots) = Continues code p at cells (record p { store = slots }) to
Storing code place p at cells to (Err fault) = tail code at cells p ≡ leaf (Faulted fault place) p

-- the piece from the instruction `at` up to the instruction `to` makes slots of the slots before it
pub record Stores (code : Parts) (place : Place) (at to : ℕ) (slots : List ℕ → Evaluated (List ℕ)) : Type 0 where
  pub by : (cells : Cells) (p : Point) → Storing code place p at cells to (slots p.store)

-- ---- what statements make of the slots

-- the right side, then the target's indexes, then the store
abbrev pub assigned : TypedTarget → TypedExpr → ℕ → List ℕ → Evaluated (List ℕ)
assigned target value base store =
    and_then (eval value base store) (λ x. and_then (location_of target base store) (λ location. Ok (stored location x store)))

-- the right side, then the target's indexes, then the old value, the operator and the store
abbrev pub changed : TypedTarget → Op → TypedExpr → ℕ → List ℕ → Evaluated (List ℕ)
changed target operator value base store =
    and_then (eval value base store) (λ x. and_then (location_of target base store) (λ location.
    and_then (operated operator target.kind (type_of value) (loaded location store) x) (λ bits.
    Ok (stored location (converted_to target.kind (or_bool (result_type operator target.kind (type_of value))) bits) store))))

-- an array's elements, or 0 for each
abbrev pub filled : Option (List TypedExpr) → ℕ → ℕ → ℕ → List ℕ → Evaluated (List ℕ)
filled values slot count base store = and_then (optional_values values count base store) (λ xs. Ok (all_stored slot xs store))
