-- The variables that are told at the end (OpenQASM 3.0 live specification, "Input/output"; Cross et al. 2022): each has a type with a size,
-- and its slots are the code's, as many as its array has elements.
use Rattle.std.specs.Prelude.{ℕ, Bool, ◌&&◌, List, [], ◌∷◌, ◌++◌}
use Rattle.std.specs.List.{list_all}
use Rattle.qt_value.specs.Types.{has_size}
use Rattle.qt_meaning.specs.Distribution.{element_count}
use Rattle.qt_meaning.specs.Values.{slots_from}
use Rattle.qt_code_rules.specs.declared.sizes.Sizes.{Sizes}
use Rattle.qt_instructions.specs.declared.parts.Field.{Field}
use Rattle.qt_code_rules.specs.Sizes.{has_slots}

-- a phase has no size, so none is told
abbrev pub has_field : Sizes → Field → Bool
has_field sizes field = has_size field.kind && has_slots sizes field.slot (element_count field.lengths)

abbrev pub has_layout : Sizes → List Field → Bool
has_layout sizes fields = list_all (has_field sizes) fields

-- the values of the variables, in their order
abbrev pub values_told : List Field → List ℕ → List ℕ
values_told [] store = []
values_told (f ∷ fs) store = slots_from store f.slot (element_count f.lengths) ++ values_told fs store
