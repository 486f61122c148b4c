-- Calls of subroutines, and right sides (OpenQASM 3.0 live specification, "Subroutines" and "Classical instructions"; Cross et al. 2022).
-- In a call come its name, the number of its arguments, and then the arguments, each with its type or size and whether it repeats a
-- qubit. Its frame is taken where it stands. A call is a statement or a whole right side.
use Rattle.std.specs.Prelude.{ℕ, nat_eq, ◌||◌, Bool, true, false, not, List, [], ◌∷◌, ◌++◌, length, slice_get, Option, Some, None, Ok, Err}
use Rattle.qt_names.specs.Entries.{Name}
use Rattle.qt_names.specs.Scopes.{found, finding}
use Rattle.qt_names.specs.declared.named.Named.{Named}
use Rattle.qt_names.specs.declared.named.Places.{Places}
use Rattle.qt_names.specs.declared.named.Places.TheVariants as places
use Rattle.qt_names.specs.declared.named.What.{What}
use Rattle.qt_names.specs.declared.named.What.TheVariants as what
use Rattle.qt_tree.specs.declared.expression.Expr.{Expr, out-Expr}
use Rattle.qt_tree.specs.declared.expression.Expr.TheOpen as e
use Rattle.qt_tree.specs.declared.expression.Expr.TheOpen.{Expr-F}
use Rattle.qt_tree.specs.declared.expression.Index.{Index}
use Rattle.qt_tree.specs.declared.expression.Range.{Range}
use Rattle.qt_tree.specs.declared.expression.Scalar.{Scalar}
use Rattle.qt_tree.specs.declared.place.Place.{Place}
use Rattle.qt_tree.specs.declared.refusal.Cause.TheVariants as cause
use Rattle.qt_tree.specs.declared.refusal.TextRefusal.TheVariants as refusal
use Rattle.qt_tree.specs.declared.statement.Operand.{Operand}
use Rattle.qt_tree.specs.declared.statement.Right.{Right}
use Rattle.qt_tree.specs.declared.statement.Right.TheVariants as right
use Rattle.qt_typed.specs.declared.call.SubroutineCall.{SubroutineCall}
use Rattle.qt_typed.specs.declared.call.TypedQubit.TheVariants as qubit
use Rattle.qt_typed.specs.declared.call.TypedQubits.{TypedQubits}
use Rattle.qt_typed.specs.declared.call.TypedQubits.TheVariants as qubits
use Rattle.qt_typed.specs.declared.expression.TypedExpr.{TypedExpr}
use Rattle.qt_typed.specs.declared.program.TypedParameter.{TypedParameter}
use Rattle.qt_typed.specs.declared.program.TypedParameter.TheVariants as parameter
use Rattle.qt_typed.specs.declared.program.TypedSubroutine.{TypedSubroutine}
use Rattle.qt_typed.specs.declared.statement.TypedRight.{TypedRight}
use Rattle.qt_typed.specs.declared.statement.TypedRight.TheVariants as typed_right
use Rattle.qt_value.specs.Types.{width_of}
use Rattle.qt_value.specs.declared.types.ValueType.{ValueType}
use Rattle.qt_typing.specs.declared.names.Names.{Names}
use Rattle.qt_typing.specs.declared.state.Called.{Called}
use Rattle.qt_typing.specs.declared.state.State.{State}
use Rattle.qt_typing.specs.declared.way.Way.TheVariants.{Unwritten}
use Rattle.qt_typing.specs.Checked.{Checked, and_then, unless, or_refuse, told}
use Rattle.qt_typing.specs.Environment.{Typing, ◌>>=◌, pure, seen, take_slots, span_from}
use Rattle.qt_typing.specs.Conversions.{converts, is_same}
use Rattle.qt_typing.specs.Expressions.{or_unfit, value_at}
use Rattle.qt_typing.specs.Qubits.{qubits_at, operand_qubits, outcomes_fit, repeats}

-- ---- arguments

-- what a call is given so far
pub record Given : Type 0 where
  pub values : List TypedExpr
  pub qubits : List TypedQubits

-- an argument for a qubit is a name, with one index at most
pub record Named' : Type 0 where
  pub name : Name
  pub index : Option Index

abbrev pub named_with : Name → List (List Index) → Option Named'
named_with name [] = Some (record { name = name; index = None })
named_with name ((index ∷ []) ∷ []) = Some (record { name = name; index = Some index })
named_with name _ = None

abbrev pub as_operand : Expr-F Expr Index Scalar Range → Option Named'
as_operand (e.Name name brackets) = named_with name brackets
as_operand _ = None

unfoldable pub argument_qubits : Names → Place → Expr → Checked TypedQubits
argument_qubits names place expr =
    and_then (or_refuse (refusal.E10 place) (as_operand (out-Expr expr))) (λ (o : Named'). qubits_at names place o.name o.index)

-- a single qubit is wanted, or a register of that size, whose places are known before the run
unfoldable pub single_fits : Place → TypedQubits → Checked (Unit {0})
single_fits place (qubits.Single q) = Ok tt
single_fits place (qubits.Register register) = Err (refusal.E10 place)

unfoldable pub register_fits : Place → ℕ → TypedQubits → Checked (Unit {0})
register_fits place size (qubits.Register register) = unless (not (nat_eq (length register) size)) (refusal.E10 place)
register_fits place size (qubits.Single (qubit.Indexed register index)) = Err (refusal.E11 place cause.Register)
register_fits place size (qubits.Single _) = Err (refusal.E10 place)

abbrev pub with_qubits : Given → TypedQubits → Given
with_qubits done q = record { values = done.values; qubits = done.qubits ++ q ∷ [] }

unfoldable pub argument : Names → Place → Given → TypedParameter → Expr → Checked Given
argument names place done (parameter.Value kind slot) expr =
    and_then (value_at names place kind expr) (λ form. Ok (record { values = done.values ++ form ∷ []; qubits = done.qubits }))
argument names place done (parameter.Qubit slot) expr =
    and_then (argument_qubits names place expr) (λ q.
    and_then (single_fits place q) (λ _.
    and_then (unless (repeats done.qubits q) (refusal.E11 place cause.Qubit)) (λ _. Ok (with_qubits done q))))
argument names place done (parameter.Register slot size) expr =
    and_then (argument_qubits names place expr) (λ q.
    and_then (register_fits place size q) (λ _.
    and_then (unless (repeats done.qubits q) (refusal.E11 place cause.Qubit)) (λ _. Ok (with_qubits done q))))

unfoldable pub arguments_from : Names → Place → Given → List TypedParameter → List Expr → Checked Given
arguments_from names place done (p ∷ parameters) (expr ∷ rest) =
    and_then (argument names place done p expr) (λ more. arguments_from names place more parameters rest)
arguments_from names place done _ _ = Ok done

unfoldable pub arguments : Names → Place → List TypedParameter → List Expr → Checked Given
arguments names place parameters given =
    and_then (unless (not (nat_eq (length parameters) (length given))) (refusal.E14 place (told (length parameters)) (told (length
    given)))) (λ _.
    arguments_from names place (record { values = []; qubits = [] }) parameters given)

-- ---- calls

abbrev pub number_kept : What → Places → Option ℕ
number_kept what.Subroutine (places.Number number) = Some number
number_kept _ _ = None

unfoldable pub subroutine_number : Named → Option ℕ
subroutine_number it = number_kept it.what it.places

unfoldable pub number_called : Names → Place → Name → Checked ℕ
number_called names place name = and_then (finding names.scopes name place) (λ it. or_unfit place name (subroutine_number it))

-- what a subroutine is given, before its frame is taken
unfoldable pub call_given : List TypedSubroutine → Place → Name → ℕ → List Expr → Names → Checked Given
call_given subroutines place name number given names =
    and_then (or_unfit place name (slice_get subroutines number)) (λ (f : TypedSubroutine). arguments names place f.parameters given)

abbrev pub slots_of : Option TypedSubroutine → ℕ
slots_of None = 0
slots_of (Some f) = f.slots

abbrev pub result_of : Option TypedSubroutine → Option ValueType
result_of None = None
result_of (Some f) = f.result

unfoldable pub framed : ℕ → Given → Typing Called
framed number given = λ s.
    (take_slots (slots_of (slice_get s.subroutines number)) >>= (λ first t.
    Ok (
      record {
        call = record { subroutine = number; frame = span_from first t.slots; values = given.values; qubits = given.qubits };
        result = result_of (slice_get s.subroutines number);
      },
      t,
    ))) s

unfoldable pub calling : Place → Name → List Expr → Typing Called
calling place name given = λ s.
    (seen (λ names. number_called names place name) >>= (λ number.
    seen (call_given s.subroutines place name number given) >>= framed number)) s

-- ---- right sides

-- what a right side is: a measurement, a subroutine's call, or an expression
pub data RightForm : Type 0 where
  Measured : Operand → RightForm
  Calls : Name → List Expr → RightForm
  Plain : Expr → RightForm

abbrev pub is_subroutine : Option Named → Bool
is_subroutine None = false
is_subroutine (Some it) = is_number (subroutine_number it) where
  is_number : Option ℕ → Bool
  is_number None = false
  is_number (Some n) = true

abbrev pub call_or_plain : Bool → Name → List Expr → Expr → RightForm
call_or_plain true name given expr = Calls name given
call_or_plain false name given expr = Plain expr

abbrev pub expr_right : Names → Expr → Expr-F Expr Index Scalar Range → RightForm
expr_right names expr (e.Call name given) = call_or_plain (is_subroutine (found names.scopes name)) name given expr
expr_right names expr _ = Plain expr

unfoldable pub right_form : Names → Right → RightForm
right_form names (right.Measure operand) = Measured operand
right_form names (right.Value expr) = expr_right names expr (out-Expr expr)

-- a result of one type as a value of another
unfoldable pub fits_type : ValueType → ValueType → Bool
fits_type from to = is_same from to || converts Unwritten from to

unfoldable pub result_at : Place → Called → Checked ValueType
result_at place called = or_refuse (refusal.E10 place) called.result

unfoldable pub call_as : Place → ValueType → Called → ValueType → Checked TypedRight
call_as place to called from =
    and_then (unless (not (fits_type from to)) (refusal.E10 place)) (λ _. Ok (typed_right.Call called.call from to))

unfoldable pub measured : Place → ValueType → Operand → Names → Checked TypedRight
measured place to operand names =
    and_then (operand_qubits names place operand) (λ of.
    and_then (outcomes_fit place (width_of to) of) (λ _. Ok (typed_right.Measure of)))

unfoldable pub plain : Place → ValueType → Expr → Names → Checked TypedRight
plain place to expr names = and_then (value_at names place to expr) (λ form. Ok (typed_right.Value form))

abbrev pub right_of : Place → ValueType → RightForm → Typing TypedRight
right_of place to (Measured operand) = seen (measured place to operand)
right_of place to (Calls name given) =
    calling place name given >>= (λ called. seen (λ _. and_then (result_at place called) (call_as place to called)))
right_of place to (Plain expr) = seen (plain place to expr)

-- a right side as a value of a type
unfoldable pub right_at : Place → ValueType → Right → Typing TypedRight
right_at place to value = λ s. right_of place to (right_form s.names value) s

unfoldable pub optional_right : Place → ValueType → Option Right → Typing (Option TypedRight)
optional_right place to None = pure None
optional_right place to (Some value) = right_at place to value >>= (λ form. pure (Some form))
