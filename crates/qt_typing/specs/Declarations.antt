-- Declarations (OpenQASM 3.0 live specification, "Types and Casting", "Quantum types" and "Scoping of variables"; Cross et al. 2022). A
-- type or size is judged where it stands, a name is new in its scope before its right side is judged, and is in scope behind the
-- declaration alone.
use Rattle.std.specs.Prelude.{ℕ, ◌+◌, ◌*◌, ◌^◌, nat_eq, nat_le, nat_lt, ◌&&◌, ◌||◌, Bool, true, false, not, if◌then◌else◌, ℤ, pos, negsuc, List, [], ◌∷◌, ◌++◌, length, Option, Some, None, Ok, Err}
use Rattle.qt_const.specs.Constants.{cast_to}
use Rattle.qt_const_rules.specs.declared.consts.Known.{Known}
use Rattle.qt_const_rules.specs.declared.consts.Known.TheVariants as known
use Rattle.qt_const_rules.specs.declared.modes.Mode.TheVariants as mode
use Rattle.qt_names.specs.Entries.{Name}
use Rattle.qt_names.specs.Scopes.{declares}
use Rattle.qt_names.specs.declared.named.Named.{Named}
use Rattle.qt_names.specs.declared.named.Places.TheVariants as places
use Rattle.qt_names.specs.declared.named.What.TheVariants as what
use Rattle.qt_registers.specs.Registers.{program_qubits}
use Rattle.qt_registers.specs.declared.fixed.FixedQubit.{FixedQubit}
use Rattle.qt_tree.specs.declared.expression.Expr.{Expr}
use Rattle.qt_tree.specs.declared.expression.Scalar.{Scalar}
use Rattle.qt_tree.specs.declared.place.Place.{Place}
use Rattle.qt_tree.specs.declared.program.ListItem.{ListItem, Row_of-ListItem, end_of-ListItem, more_of-ListItem}
use Rattle.qt_tree.specs.declared.program.ListItem.TheVariants.{List', Value}
use Rattle.qt_tree.specs.declared.refusal.Cause.TheVariants as cause
use Rattle.qt_tree.specs.declared.refusal.TextRefusal.TheVariants as refusal
use Rattle.qt_tree.specs.declared.statement.Operand.{Operand}
use Rattle.qt_tree.specs.declared.statement.Right.{Right}
use Rattle.qt_typed.specs.declared.expression.TypedExpr.{TypedExpr}
use Rattle.qt_typed.specs.declared.program.TypedOutput.{TypedOutput}
use Rattle.qt_typed.specs.declared.statement.TypedAction.{TypedAction}
use Rattle.qt_typed.specs.declared.statement.TypedAction.TheVariants as action
use Rattle.qt_typed.specs.declared.statement.TypedRight.{TypedRight}
use Rattle.qt_value.specs.Numbers.{Datum}
use Rattle.qt_value.specs.declared.constant.ConstValue.{ConstValue}
use Rattle.qt_value.specs.declared.constant.ConstValue.TheVariants as constant
use Rattle.qt_value.specs.declared.types.ValueType.{ValueType}
use Rattle.qt_value.specs.declared.types.ValueType.TheVariants as kind
use Rattle.qt_typing.specs.declared.names.Names.{Names}
use Rattle.qt_typing.specs.declared.state.State.{State}
use Rattle.qt_typing.specs.Checked.{Checked, and_then, answer_at, unless, last_number, told}
use Rattle.qt_typing.specs.Environment.{Typing, ◌>>=◌, pure, seen, constant_at, number_at, type_at, take_slots, take_qubits, declare, declare_in_both, is_global}
use Rattle.qt_typing.specs.Conversions.{rescales}
use Rattle.qt_typing.specs.Expressions.{value_at}
use Rattle.qt_typing.specs.Qubits.{operand_qubits, known_places, overlaps}
use Rattle.qt_typing.specs.Calls.{optional_right}

-- ---- sizes and new names

unfoldable pub size_within : Place → ℕ → ℤ → Checked ℕ
size_within place largest (pos n) = if nat_le 1 n && nat_le n largest then Ok n else Err (refusal.E12 place cause.Range)
size_within place largest (negsuc n) = Err (refusal.E12 place cause.Range)

unfoldable pub size_at : Place → ℕ → Expr → Names → Checked ℕ
size_at place largest expr names = and_then (number_at names mode.Plain place expr) (size_within place largest)

-- a name that doesn't stand in the innermost scope
unfoldable pub new_name : Place → Name → Names → Checked (Unit {0})
new_name place name names = unless (declares names.scopes name) (refusal.E9 place name)

-- a type, and then a new name
unfoldable pub typed_name : Place → Scalar → Name → Names → Checked ValueType
typed_name place scalar name names =
    and_then (type_at names mode.Plain place scalar) (λ kind. and_then (new_name place name names) (λ _. Ok kind))

-- ---- variables

unfoldable pub variable_named : ValueType → List ℕ → ℕ → Named
variable_named kind lengths slot = record { what = what.Variable; of = Some kind; lengths = lengths; places = places.Number slot }

abbrev pub known_lengths : List ℕ → Known
known_lengths [] = known.Other
known_lengths (n ∷ rest) = known.Lengths (n ∷ rest)

abbrev pub told_at_end : Name → ValueType → List ℕ → ℕ → TypedOutput
told_at_end name kind lengths slot = record { name = name; kind = kind; slot = slot; lengths = lengths }

-- a global variable may be told at the end
unfoldable pub keep_variable : TypedOutput → Typing (Unit {0})
keep_variable output = λ s. Ok (tt, if is_global s then record s { variables = s.variables ++ output ∷ [] } else s)

unfoldable pub declare_variable : Place → Name → ValueType → List ℕ → ℕ → Typing (Unit {0})
declare_variable place name kind lengths slot =
    declare place name (variable_named kind lengths slot) (known_lengths lengths) >>= (λ _. keep_variable (told_at_end name kind
    lengths slot))

-- ---- `bit[2] c = measure q;`

unfoldable pub declared_with : Place → Name → ValueType → ℕ → Option TypedRight → Typing TypedAction
declared_with place name kind slot value = declare_variable place name kind [] slot >>= (λ _. pure (action.Declare kind slot value))

unfoldable pub valued : Place → Name → ValueType → Option Right → ℕ → Typing TypedAction
valued place name kind value slot = optional_right place kind value >>= declared_with place name kind slot

-- its slot comes before the frame of a call in the right side
unfoldable pub declaration_of : Place → Scalar → Name → Option Right → Typing TypedAction
declaration_of place scalar name value =
    seen (typed_name place scalar name) >>= (λ kind. take_slots 1 >>= valued place name kind value)

-- ---- `creg c[2];`

unfoldable pub bits_size : Place → Option Expr → Names → Checked ℕ
bits_size place None names = Ok 1
bits_size place (Some expr) names = size_at place 64 expr names

unfoldable pub bit_register : Place → Name → Option Expr → Typing TypedAction
bit_register place name size =
    seen (new_name place name) >>= (λ _.
    seen (bits_size place size) >>= (λ n.
    take_slots 1 >>= (λ slot. declared_with place name (kind.Bit n) slot None)))

-- ---- `const int n = 2;`

-- a constant as one of a type, without a cast that is written
unfoldable pub constant_as : Place → ValueType → ConstValue → Checked ConstValue
constant_as place to (constant.Phase p) = answer_at place (cast_to to (constant.Phase p))
constant_as place to (constant.Value x) =
    if rescales x.kind to then Err (refusal.E10 place) else answer_at place (cast_to to (constant.Value x))

unfoldable pub constant_valued : Place → ValueType → Expr → Names → Checked ConstValue
constant_valued place kind expr names = and_then (constant_at names mode.Plain place expr) (constant_as place kind)

abbrev pub constant_named : ValueType → Named
constant_named kind = record { what = what.Constant; of = Some kind; lengths = []; places = places.Nowhere }

-- the bodies of subroutines and gates see a global one
unfoldable pub declare_constant : Place → Name → ValueType → ConstValue → Typing (Unit {0})
declare_constant place name kind c = λ s.
    (if is_global s then declare_in_both place name (constant_named kind) (known.Constant c) else declare place name (constant_named
    kind) (known.Constant c)) s

unfoldable pub constant_of : Place → Scalar → Name → Expr → Typing (Unit {0})
constant_of place scalar name expr =
    seen (typed_name place scalar name) >>= (λ kind. seen (constant_valued place kind expr) >>= declare_constant place name kind)

-- ---- `qubit[2] q;` and `qreg q[2];`

abbrev pub qubits_named : List ℕ → ℕ → ℕ → Named
qubits_named lengths first count =
    record { what = what.Qubits; of = None; lengths = lengths; places = places.Qubits (program_qubits first count) }

-- a single qubit, or a register of a size
unfoldable pub declare_qubits : Place → Name → Option ℕ → Typing (Unit {0})
declare_qubits place name None = take_qubits 1 >>= (λ first. declare place name (qubits_named [] first 1) known.Hidden)
declare_qubits place name (Some n) = take_qubits n >>= (λ first. declare place name (qubits_named (n ∷ []) first n) known.Hidden)

unfoldable pub optional_size : Place → Option Expr → Names → Checked (Option ℕ)
optional_size place None names = Ok None
optional_size place (Some expr) names = and_then (size_at place last_number expr names) (λ n. Ok (Some n))

unfoldable pub qubit_declaration : Place → Option Expr → Name → Typing (Unit {0})
qubit_declaration place size name =
    seen (optional_size place size) >>= (λ n. seen (new_name place name) >>= (λ _. declare_qubits place name n))

unfoldable pub qubit_register : Place → Name → Option Expr → Typing (Unit {0})
qubit_register place name size =
    seen (new_name place name) >>= (λ _. seen (optional_size place size) >>= declare_qubits place name)

-- ---- `let a = q[0:1] ++ r;`

-- the qubits of the parts, none twice
unfoldable pub parts_from : Place → List FixedQubit → List Operand → Names → Checked (List FixedQubit)
parts_from place done [] names = Ok done
parts_from place done (part ∷ rest) names =
    and_then (operand_qubits names place part) (λ of.
    and_then (known_places place of) (λ register.
    and_then (unless (overlaps done register) (refusal.E11 place cause.Qubit)) (λ _. parts_from place (done ++ register) rest names)))

unfoldable pub alias_qubits : Place → List Operand → Names → Checked (List FixedQubit)
alias_qubits place parts names =
    and_then (parts_from place [] parts names) (λ register.
    and_then (unless (nat_lt last_number (length register)) (refusal.E12 place cause.Range)) (λ _. Ok register))

abbrev pub alias_named : List FixedQubit → Named
alias_named register = record { what = what.Alias; of = None; lengths = length register ∷ []; places = places.Qubits register }

unfoldable pub alias_of : Place → Name → List Operand → Typing (Unit {0})
alias_of place name parts =
    seen (new_name place name) >>= (λ _.
    seen (alias_qubits place parts) >>= (λ register. declare place name (alias_named register) known.Hidden))

-- ---- `array[int[8], 2, 3] a = {{1, 2, 3}, {4, 5, 6}};`

-- the elements are bools, ints, uints or angles
abbrev pub is_element : ValueType → Bool
is_element (kind.Bit n) = false
is_element kind.Phase = false
is_element _ = true

unfoldable pub element_type : Place → Scalar → Names → Checked ValueType
element_type place scalar names =
    and_then (type_at names mode.Plain place scalar) (λ kind. and_then (unless (not (is_element kind)) (refusal.E10 place)) (λ _. Ok kind))

-- one length after the other, seven at most
unfoldable pub lengths_from : Place → List ℕ → List Expr → Names → Checked (List ℕ)
lengths_from place done [] names = Ok done
lengths_from place done (expr ∷ rest) names =
    and_then (unless (nat_le 7 (length done)) (refusal.E11 place cause.Dimensions)) (λ _.
    and_then (size_at place last_number expr names) (λ n. lengths_from place (done ++ n ∷ []) rest names))

-- how many elements there are, counted up to the last number that is told
abbrev pub element_count : List ℕ → ℕ
element_count [] = 1
element_count (n ∷ lengths) = told (n * element_count lengths)

abbrev pub row_length : {k : _} → Row_of-ListItem k → ℕ
row_length end_of-ListItem = 0
row_length (more_of-ListItem item rest) = row_length rest + 1

-- a list has as many items as the array's first dimension is long, and an item the shape of the other dimensions. The elements stand in
-- ascending order of their indexes, the last index fastest
abbrev mutual
  pub item_values : Names → Place → ValueType → List ℕ → ListItem → Checked (List TypedExpr)
  item_values names place kind [] (Value expr) = and_then (value_at names place kind expr) (λ form. Ok (form ∷ []))
  item_values names place kind (n ∷ lengths) (List' k items) =
      and_then (unless (not (nat_eq (row_length items) n)) (refusal.E10 place)) (λ _. row_values names place kind lengths items)
  item_values names place kind lengths item = Err (refusal.E10 place)

  pub row_values : {k : _} → Names → Place → ValueType → List ℕ → Row_of-ListItem k → Checked (List TypedExpr)
  row_values names place kind lengths end_of-ListItem = Ok []
  row_values names place kind lengths (more_of-ListItem item rest) =
      and_then (item_values names place kind lengths item) (λ forms.
      and_then (row_values names place kind lengths rest) (λ others. Ok (forms ++ others)))

abbrev pub list_values : Names → Place → ValueType → List ℕ → List ListItem → Checked (List TypedExpr)
list_values names place kind lengths [] = Ok []
list_values names place kind lengths (item ∷ rest) =
    and_then (item_values names place kind lengths item) (λ forms.
    and_then (list_values names place kind lengths rest) (λ others. Ok (forms ++ others)))

-- the list that is given for a whole array
unfoldable pub array_values : Place → ValueType → List ℕ → List ListItem → Names → Checked (List TypedExpr)
array_values place kind [] items names = Err (refusal.E10 place)
array_values place kind (n ∷ lengths) items names =
    and_then (unless (not (nat_eq (length items) n)) (refusal.E10 place)) (λ _. list_values names place kind lengths items)

unfoldable pub optional_values : Place → ValueType → List ℕ → Option (List ListItem) → Names → Checked (Option (List TypedExpr))
optional_values place kind lengths None names = Ok None
optional_values place kind lengths (Some items) names = and_then (array_values place kind lengths items names) (λ forms. Ok (Some forms))

unfoldable pub array_with : Place → Name → ValueType → List ℕ → Option (List TypedExpr) → ℕ → Typing TypedAction
array_with place name kind lengths values slot =
    declare_variable place name kind lengths slot >>= (λ _. pure (action.DeclareArray kind slot (element_count lengths) values))

unfoldable pub array_of : Place → Scalar → List Expr → Name → Option (List ListItem) → Typing TypedAction
array_of place scalar dimensions name values =
    seen (element_type place scalar) >>= (λ kind.
    seen (lengths_from place [] dimensions) >>= (λ lengths.
    seen (new_name place name) >>= (λ _.
    seen (optional_values place kind lengths values) >>= (λ forms.
    take_slots (element_count lengths) >>= array_with place name kind lengths forms))))
