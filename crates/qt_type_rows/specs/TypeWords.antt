-- The words of a type in a row: its name, as the language spells it, and its width in bits (OpenQASM 3.0 live specification,
-- "Classical types"). A phase is the type of no value, and has none.
use Rattle.std.specs.Prelude.{◌≡◌, ℕ, List, codes, Option, Some, None}
use Rattle.qt_value.specs.Types.{width_of}
use Rattle.qt_value.specs.declared.types.ValueType.{ValueType}
use Rattle.qt_value.specs.declared.types.ValueType.TheVariants as kind

abbrev pub name_of : ValueType → Option (List ℕ)
name_of kind.Bool = Some (codes "bool")
name_of (kind.Bit n) = Some (codes "bit")
name_of (kind.Int n) = Some (codes "int")
name_of (kind.Uint n) = Some (codes "uint")
name_of (kind.Angle n) = Some (codes "angle")
name_of kind.Phase = None

-- the type has this name and width
abbrev pub IsWritten : ValueType → List ℕ → ℕ → Type 0
IsWritten of name width = (name_of of ≡ Some name) × (width_of of ≡ width)

abbrev pub IsNoType : List ℕ → ℕ → Type 0
IsNoType name width = (of : ValueType) → ¬ IsWritten of name width
