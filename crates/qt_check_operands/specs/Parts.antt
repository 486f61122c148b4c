-- What indexes lead to (OpenQASM 3.0 live specification, "Index sets and slicing"; Cross et al. 2022).
use Rattle.std.specs.Prelude.{◌≡◌, ◌≢◌, List, map, Ok, Err}
use Rattle.qt_tree.specs.declared.expression.Index.{Index}
use Rattle.qt_tree.specs.declared.place.Place.{Place}
use Rattle.qt_tree.specs.declared.refusal.TextRefusal.TheVariants as refusal
use Rattle.qt_typed.specs.declared.expression.TypedVariable.{TypedVariable}
use Rattle.qt_typing.specs.declared.names.Names.{Names}
use Rattle.qt_typing.specs.Checked.{Checked}
use Rattle.qt_typing.specs.Indexes.{IndexPart, Reached}
use Rattle.qt_typing.specs.Expressions.{index_part}

-- indexes, and how they are typed
abbrev pub index_parts : Names → Place → List Index → List IndexPart
index_parts names place indexes = map (index_part names place) indexes

-- the call finds this variable, and leaves these indexes; or it refuses, or memory wants
abbrev pub Reaches : Names → Place → Checked Reached → Checked TypedVariable → List Index → Type 0
Reaches names place outcome (Ok variable) left = outcome ≡ Ok (record { variable = variable; rest = index_parts names place left })
Reaches names place outcome (Err e) left = e ≢ refusal.OutOfMemory → outcome ≡ Err e
