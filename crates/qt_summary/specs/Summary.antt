-- What a program comes to before it runs: its numbers of qubits and slots and its size, or the first reason why it is refused (OpenQASM 3.0
-- live specification, "Gates"; Cross et al. 2022; the limit of the size and that all angles are multiples of π/4 are this profile's). After
-- the typing its size is tested, and then its fixed angles.
use Rattle.std.specs.Prelude.{◌≡◌, ℕ, nat_lt, Bool, true, false, ◌&&◌, List, [], ◌∷◌, Option, Some, None, Ok, Err}
use Rattle.qt_tree.specs.declared.label.Setting.{Setting}
use Rattle.qt_tree.specs.declared.program.Item.{Item}
use Rattle.qt_tree.specs.declared.program.Item.TheVariants as item
use Rattle.qt_tree.specs.declared.program.Program.{Program}
use Rattle.qt_tree.specs.declared.refusal.TextRefusal.{TextRefusal}
use Rattle.qt_tree.specs.declared.refusal.TextRefusal.TheVariants as refusal
use Rattle.qt_typed.specs.declared.program.Typed.{Typed}
use Rattle.qt_typing.specs.Checked.{Checked, and_then, unless}
use Rattle.qt_typing.specs.Programs.{items_built, typing_of}
use Rattle.qt_fixed_angles.specs.declared.wrong.WrongAngle.{WrongAngle}
use Rattle.qt_fixed_angles.specs.Angles.{first_wrong_angle}
use Rattle.qt_summary.specs.declared.summary.Summary.{Summary}

-- the limit of the profile
abbrev pub most_size : ℕ
most_size = 1048576

unfoldable pub size_fits : Typed → Checked (Unit {0})
size_fits typed = unless (nat_lt most_size typed.size) (refusal.E17 typed.size)

abbrev pub angle_fits : Option WrongAngle → Checked (Unit {0})
angle_fits None = Ok tt
angle_fits (Some wrong) = Err (refusal.E13 wrong.place wrong.units)

abbrev pub numbers_of : Typed → Summary
numbers_of typed = record { qubits = typed.qubits; slots = typed.slots; size = typed.size }

unfoldable pub typed_summary : Typed → Checked Summary
typed_summary typed = and_then (size_fits typed) (λ _. and_then (angle_fits (first_wrong_angle typed)) (λ _. Ok (numbers_of typed)))

unfoldable pub summary_of : List Setting → Program → Checked Summary
summary_of settings program = and_then (typing_of settings program) typed_summary

-- ---- of which programs it is answered without settings so far: they have no inputs, and include the standard gates alone

abbrev pub is_no_input : Item → Bool
is_no_input (item.Input place scalar name) = false
is_no_input _ = true

unfoldable pub no_inputs : List Item → Bool
no_inputs [] = true
no_inputs (it ∷ rest) = is_no_input it && no_inputs rest

abbrev pub is_served : List Item → Bool
is_served items = items_built items && no_inputs items

-- the program is served and refused, for that reason
abbrev pub IsRefusedProgram : Program → TextRefusal → Type 0
IsRefusedProgram program reason = (is_served program.items ≡ true) × (summary_of [] program ≡ Err reason)
