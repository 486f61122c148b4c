-- Inputs (OpenQASM 3.0 live specification, "Input/output"; Cross et al. 2022). An input is a variable that keeps the value that is given for it; it
-- isn't constant, and nothing is assigned to it. A value is written as digits 0 and 1 of a bit register, the highest place on the left, as
-- `true` or `false`, or in decimal digits, with a sign before an int; for an angle it is the angle's number.
use Rattle.std.specs.Prelude.{ℕ, ◌+◌, ◌-◌, ◌*◌, ◌^◌, nat_eq, nat_le, nat_lt, ◌&&◌, Bool, true, false, not, if◌then◌else◌, codes}
use Rattle.std.specs.Prelude.{List, [], ◌∷◌, ◌++◌, length, Option, Some, None, Ok, Err}
use Rattle.std.specs.Cmp.Lexicographic.{pointwise}
use Rattle.qt_const_rules.specs.declared.consts.Known.TheVariants as known
use Rattle.qt_names.specs.Entries.{Name}
use Rattle.qt_names.specs.declared.named.Named.{Named}
use Rattle.qt_names.specs.declared.named.Places.TheVariants as places
use Rattle.qt_names.specs.declared.named.What.TheVariants as what
use Rattle.qt_tree.specs.declared.expression.Scalar.{Scalar}
use Rattle.qt_tree.specs.declared.place.Place.{Place}
use Rattle.qt_tree.specs.declared.refusal.Cause.TheVariants as cause
use Rattle.qt_tree.specs.declared.label.Setting.{Setting}
use Rattle.qt_tree.specs.declared.refusal.TextRefusal.TheVariants as refusal
use Rattle.qt_typed.specs.declared.program.StartValue.{StartValue}
use Rattle.qt_typed.specs.declared.program.TypedOutput.{TypedOutput}
use Rattle.qt_value.specs.declared.types.ValueType.{ValueType}
use Rattle.qt_value.specs.declared.types.ValueType.TheVariants as kind
use Rattle.qt_typing.specs.declared.state.State.{State}
use Rattle.qt_typing.specs.Checked.{Checked, and_then}
use Rattle.qt_typing.specs.Environment.{Typing, ◌>>=◌, seen, take_slots, declare}
use Rattle.qt_typing.specs.Declarations.{typed_name, told_at_end}

-- ---- declarations

-- a name that nothing is assigned to, and that has a slot
abbrev pub input_named : ValueType → ℕ → Named
input_named kind slot = record { what = what.Constant; of = Some kind; lengths = []; places = places.Number slot }

unfoldable pub keep_input : TypedOutput → Typing (Unit {0})
keep_input input = λ s. Ok (tt, record s { inputs = s.inputs ++ input ∷ [] })

unfoldable pub input_at : Place → Name → ValueType → ℕ → Typing (Unit {0})
input_at place name kind slot =
    declare place name (input_named kind slot) known.Other >>= (λ _. keep_input (told_at_end name kind [] slot))

unfoldable pub input_of : Place → Scalar → Name → Typing (Unit {0})
input_of place scalar name = seen (typed_name place scalar name) >>= (λ kind. take_slots 1 >>= input_at place name kind)

-- ---- values as they are written

abbrev pub digit_below : ℕ → ℕ → Option ℕ
digit_below base byte = if nat_le 48 byte && nat_lt byte (48 + base) then Some (byte - 48) else None

abbrev pub more_digits : ℕ → ℕ → Option ℕ → Option ℕ
more_digits base n None = None
more_digits base n (Some digit) = Some (n * base + digit)

-- the number that digits stand for behind those that stand for n
abbrev pub digits_from : ℕ → Option ℕ → List ℕ → Option ℕ
digits_from base n [] = n
digits_from base None (byte ∷ rest) = None
digits_from base (Some n) (byte ∷ rest) = digits_from base (more_digits base n (digit_below base byte)) rest

abbrev pub digits_of : ℕ → List ℕ → Option ℕ
digits_of base [] = None
digits_of base (byte ∷ rest) = digits_from base (Some 0) (byte ∷ rest)

abbrev pub below : ℕ → Option ℕ → Option ℕ
below bound None = None
below bound (Some n) = if nat_lt n bound then Some n else None

-- a number below 0 in two's complement
abbrev pub opposite : ℕ → Option ℕ → Option ℕ
opposite width None = None
opposite width (Some n) = if nat_le n (2 ^ (width - 1)) then Some (if nat_eq n 0 then 0 else 2 ^ width - n) else None

abbrev pub signed_digits : ℕ → List ℕ → Option ℕ
signed_digits width [] = None
signed_digits width (byte ∷ rest) =
    if nat_eq byte 45 then opposite width (digits_of 10 rest) else below (2 ^ (width - 1)) (digits_of 10 (byte ∷ rest))

abbrev pub truth_written : List ℕ → Option ℕ
truth_written text =
    if pointwise nat_eq text (codes "true") then Some 1 else
    if pointwise nat_eq text (codes "false") then Some 0 else
    None

unfoldable pub bits_written : ValueType → List ℕ → Option ℕ
bits_written kind.Bool text = truth_written text
bits_written (kind.Bit n) text = if nat_eq (length text) n then digits_of 2 text else None
bits_written (kind.Int n) text = signed_digits n text
bits_written (kind.Uint n) text = below (2 ^ n) (digits_of 10 text)
bits_written (kind.Angle n) text = below (2 ^ n) (digits_of 10 text)
bits_written kind.Phase text = None

-- ---- settings

abbrev pub setting_of : List Setting → Name → Option Name
setting_of [] name = None
setting_of (setting ∷ rest) name = if pointwise nat_eq setting.name name then Some setting.value else setting_of rest name

abbrev pub start_with : Name → ℕ → Option ℕ → Checked StartValue
start_with name slot None = Err (refusal.E19 name cause.Bad)
start_with name slot (Some bits) = Ok (record { slot = slot; bits = bits })

abbrev pub start_of : TypedOutput → Option Name → Checked StartValue
start_of input None = Err (refusal.E19 input.name cause.Missing)
start_of input (Some text) = start_with input.name input.slot (bits_written input.kind text)

unfoldable pub starts_from : List Setting → List StartValue → List TypedOutput → Checked (List StartValue)
starts_from settings done [] = Ok done
starts_from settings done (input ∷ rest) =
    and_then (start_of input (setting_of settings input.name)) (λ start. starts_from settings (done ++ start ∷ []) rest)

abbrev pub is_input : List TypedOutput → Name → Bool
is_input [] name = false
is_input (input ∷ rest) name = if pointwise nat_eq input.name name then true else is_input rest name

unfoldable pub settings_fit : List TypedOutput → List Setting → Checked (Unit {0})
settings_fit inputs [] = Ok tt
settings_fit inputs (setting ∷ rest) =
    if is_input inputs setting.name then settings_fit inputs rest else Err (refusal.E19 setting.name cause.Unknown)

-- the first input in order of text that has no value or a bad one, and then the first setting that names no input
unfoldable pub inputs_fit : List Setting → List TypedOutput → Checked (List StartValue)
inputs_fit settings inputs =
    and_then (starts_from settings [] inputs) (λ starts. and_then (settings_fit inputs settings) (λ _. Ok starts))
