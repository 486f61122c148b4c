-- Gate calls (OpenQASM 3.0 live specification, "Gates", applying gates and quantum gate modifiers; Cross et al. 2022). In a call come its
-- modifiers, its gate, the number of its parameters, each argument, the number of its qubits, and then the operands, each with its size and
-- whether it repeats a qubit. Registers of one size spread a call over their places, and single qubits repeat.
use Rattle.std.specs.Prelude.{ℕ, zero, suc, ◌+◌, ◌-◌, ◌*◌, ◌^◌, nat_eq, nat_le, ◌&&◌, ◌||◌, ℤ, pos, unsigned_abs, Bool, true, false, not}
use Rattle.std.specs.Prelude.{if◌then◌else◌, List, [], ◌∷◌, ◌++◌, length, replicate, codes, Option, Some, None, Ok, Err}
use Rattle.std.specs.Cmp.Lexicographic.{pointwise}
use Rattle.qt_const.specs.Constants.{is_whole_zero}
use Rattle.qt_const_rules.specs.declared.modes.Mode.TheVariants as mode
use Rattle.qt_gate_calls.specs.Standard.{StandardGate, standard_gates}
use Rattle.qt_gate_calls.specs.declared.body.Called.{Called}
use Rattle.qt_gate_calls.specs.declared.body.Called.TheVariants as called
use Rattle.qt_gate_calls.specs.declared.body.GateBody.{GateBody}
use Rattle.qt_gate_calls.specs.declared.body.GateModifier.{GateModifier}
use Rattle.qt_gate_calls.specs.declared.body.GateModifier.TheVariants as gate_modifier
use Rattle.qt_names.specs.Entries.{Name}
use Rattle.qt_names.specs.Scopes.{found}
use Rattle.qt_names.specs.declared.named.Named.{Named}
use Rattle.qt_names.specs.declared.named.Places.{Places}
use Rattle.qt_names.specs.declared.named.Places.TheVariants as places
use Rattle.qt_names.specs.declared.named.What.{What}
use Rattle.qt_names.specs.declared.named.What.TheVariants as what
use Rattle.qt_registers.specs.declared.fixed.FixedQubit.{FixedQubit}
use Rattle.qt_tree.specs.declared.expression.Expr.{Expr}
use Rattle.qt_tree.specs.declared.place.Place.{Place}
use Rattle.qt_tree.specs.declared.refusal.Cause.TheVariants as cause
use Rattle.qt_tree.specs.declared.refusal.TextRefusal.TheVariants as refusal
use Rattle.qt_tree.specs.declared.statement.CalledGate.{CalledGate}
use Rattle.qt_tree.specs.declared.statement.CalledGate.TheVariants as written
use Rattle.qt_tree.specs.declared.statement.GateCall.{GateCall}
use Rattle.qt_tree.specs.declared.statement.Modifier.{Modifier}
use Rattle.qt_tree.specs.declared.statement.Modifier.TheVariants as modifier
use Rattle.qt_tree.specs.declared.statement.Operand.{Operand}
use Rattle.qt_typed.specs.declared.call.GateUse.{GateUse}
use Rattle.qt_typed.specs.declared.call.TypedQubit.{TypedQubit}
use Rattle.qt_typed.specs.declared.call.TypedQubits.{TypedQubits}
use Rattle.qt_typed.specs.declared.call.TypedQubits.TheVariants as qubits
use Rattle.qt_typed.specs.declared.expression.TypedPhase.{TypedPhase}
use Rattle.qt_typed.specs.declared.expression.TypedPhase.TheVariants as phase
use Rattle.qt_typed.specs.declared.statement.TypedAction.{TypedAction}
use Rattle.qt_typed.specs.declared.statement.TypedAction.TheVariants as action
use Rattle.qt_value.specs.Numbers.{Datum}
use Rattle.qt_value.specs.declared.constant.ConstValue.{ConstValue}
use Rattle.qt_value.specs.declared.constant.ConstValue.TheVariants as constant
use Rattle.qt_value.specs.declared.types.ValueType.{ValueType}
use Rattle.qt_value.specs.declared.types.ValueType.TheVariants as kind
use Rattle.qt_typing.specs.declared.names.Names.{Names}
use Rattle.qt_typing.specs.declared.operand.Operand.TheVariants as operand
use Rattle.qt_typing.specs.declared.operand.Operand as typed_operand
use Rattle.qt_typing.specs.Checked.{Checked, and_then, unless, told}
use Rattle.qt_typing.specs.Environment.{constant_at, number_at}
use Rattle.qt_typing.specs.Sorts.{is_fixed}
use Rattle.qt_typing.specs.Expressions.{or_unfit, typed_of}
use Rattle.qt_typing.specs.Qubits.{operand_qubits, is_same_qubit, contains, fixed_qubits, is_same_slot}
use Rattle.qt_typing.specs.Declarations.{size_within}

-- ---- modifiers, the outermost first

abbrev pub largest_power : ℕ
largest_power = 1024

abbrev pub most_controls : ℕ
most_controls = 15

abbrev pub power_of : Place → ℤ → Checked (List GateModifier)
power_of place k =
    if nat_le (unsigned_abs k) largest_power then Ok (gate_modifier.Pow k ∷ []) else Err (refusal.E12 place cause.Range)

abbrev pub controls_at : Names → Place → Option Expr → Checked ℕ
controls_at names place None = Ok 1
controls_at names place (Some expr) = and_then (number_at names mode.Plain place expr) (size_within place most_controls)

-- no division in the exponent of a power leaves a rest
unfoldable pub modifier_of : Names → Place → Modifier → Checked (List GateModifier)
modifier_of names place modifier.Inv = Ok (gate_modifier.Inv ∷ [])
modifier_of names place (modifier.Pow exponent) = and_then (number_at names mode.Exact place exponent) (power_of place)
modifier_of names place (modifier.Ctrl count) = and_then (controls_at names place count) (λ n. Ok (replicate n gate_modifier.Ctrl))
modifier_of names place (modifier.NegCtrl count) = and_then (controls_at names place count) (λ n. Ok (replicate n gate_modifier.NegCtrl))

unfoldable pub modifiers_from : Names → Place → List GateModifier → List Modifier → Checked (List GateModifier)
modifiers_from names place done [] = Ok done
modifiers_from names place done (m ∷ rest) =
    and_then (modifier_of names place m) (λ more. modifiers_from names place (done ++ more) rest)

abbrev pub controls : List GateModifier → ℕ
controls [] = 0
controls (gate_modifier.Ctrl ∷ rest) = suc (controls rest)
controls (gate_modifier.NegCtrl ∷ rest) = suc (controls rest)
controls (_ ∷ rest) = controls rest

-- ---- gates: a name that the program declares, else U, else a standard gate where these are included

-- what is called, and the numbers of its parameters and qubits
pub record Gate : Type 0 where
  pub called : Called
  pub parameters : ℕ
  pub qubits : ℕ

abbrev pub gate_kept : List ℕ → Places → Option Gate
gate_kept (parameters ∷ qubits ∷ []) (places.Number number) =
    Some (record { called = called.Gate number; parameters = parameters; qubits = qubits })
gate_kept _ _ = None

abbrev pub gate_of_kind : What → Named → Option Gate
gate_of_kind what.Gate it = gate_kept it.lengths it.places
gate_of_kind _ it = None

abbrev pub standard_from : ℕ → List StandardGate → Name → Option Gate
standard_from n [] name = None
standard_from n (g ∷ rest) name =
    if pointwise nat_eq g.name name
    then Some (record { called = called.Gate n; parameters = g.body.parameters; qubits = g.body.qubits })
    else standard_from (suc n) rest name

abbrev pub standard_gate : Bool → Name → Option Gate
standard_gate true name = standard_from 0 standard_gates name
standard_gate false name = None

abbrev pub u_gate : Gate
u_gate = record { called = called.U; parameters = 3; qubits = 1 }

abbrev pub global_phase : Gate
global_phase = record { called = called.GlobalPhase; parameters = 1; qubits = 0 }

unfoldable pub gate_at : Bool → Place → Name → Option Named → Checked Gate
gate_at included place name (Some it) = or_unfit place name (gate_of_kind it.what it)
gate_at included place name None =
    if pointwise nat_eq name (codes "U") then Ok u_gate else or_unfit place name (standard_gate included name)

unfoldable pub gate_called : Names → Bool → Place → CalledGate → Checked Gate
gate_called names included place (written.Named name arguments) = gate_at included place name (found names.scopes name)
gate_called names included place (written.GlobalPhase angle) = Ok global_phase

abbrev pub optional_list : Option (List Expr) → List Expr
optional_list None = []
optional_list (Some exprs) = exprs

abbrev pub written_arguments : CalledGate → List Expr
written_arguments (written.Named name arguments) = optional_list arguments
written_arguments (written.GlobalPhase angle) = angle ∷ []

unfoldable pub count_fits : Place → ℕ → ℕ → Checked (Unit {0})
count_fits place wanted given = unless (not (nat_eq wanted given)) (refusal.E14 place (told wanted) (told given))

-- ---- arguments

-- the angle of n bits with the number c is c · 2^(33 − n) units
abbrev pub angle_units : ValueType → ℕ → ℤ
angle_units (kind.Angle n) bits = pos (bits * 2 ^ (33 - n))
angle_units _ bits = pos 0

abbrev pub value_units : Place → Datum → ValueType → Checked ℤ
value_units place x (kind.Angle n) = Ok (angle_units x.kind x.bits)
value_units place x _ = if is_whole_zero x then Ok (pos 0) else Err (refusal.E10 place)

-- a constant as an argument: a phase, an angle, or 0
unfoldable pub constant_units : Place → ConstValue → Checked ℤ
constant_units place (constant.Phase p) = Ok p
constant_units place (constant.Value x) = value_units place x x.kind

abbrev pub angle_phase : Place → ValueType → TypedPhase → Checked TypedPhase
angle_phase place (kind.Angle n) form = Ok form
angle_phase place _ form = Err (refusal.E10 place)

-- one that is known in the run
unfoldable pub free_phase : Place → typed_operand.Operand → Checked TypedPhase
free_phase place (operand.Value kind form) = angle_phase place kind (phase.Angle form)
free_phase place (operand.Phase form) = Ok form

-- an argument is typed first. One that is constant as a whole is reckoned
unfoldable pub argument_phase : Names → Place → Expr → Checked TypedPhase
argument_phase names place expr =
    and_then (typed_of names mode.Plain place expr) (λ x.
    if is_fixed names expr
    then and_then (constant_at names mode.Plain place expr) (λ c. and_then (constant_units place c) (λ p. Ok (phase.Fixed p)))
    else free_phase place x)

unfoldable pub phases_from : Names → Place → List TypedPhase → List Expr → Checked (List TypedPhase)
phases_from names place done [] = Ok done
phases_from names place done (expr ∷ rest) =
    and_then (argument_phase names place expr) (λ p. phases_from names place (done ++ p ∷ []) rest)

-- ---- operands

-- two registers have one qubit at one place
abbrev pub meets : List FixedQubit → List FixedQubit → Bool
meets (a ∷ as') (b ∷ bs) = is_same_qubit a b || meets as' bs
meets _ _ = false

-- two operands are the same qubit in one of the calls
unfoldable pub clashes : TypedQubits → TypedQubits → Bool
clashes (qubits.Register a) (qubits.Register b) = meets a b
clashes (qubits.Register a) (qubits.Single q) = contains_any a (fixed_qubits (qubits.Single q)) where
  contains_any : List FixedQubit → List FixedQubit → Bool
  contains_any register [] = false
  contains_any register (q ∷ rest) = contains register q
clashes (qubits.Single q) (qubits.Register b) = contains_first b (fixed_qubits (qubits.Single q)) where
  contains_first : List FixedQubit → List FixedQubit → Bool
  contains_first register [] = false
  contains_first register (q ∷ rest) = contains register q
clashes a b = is_same_slot a b || same_first (fixed_qubits a) (fixed_qubits b) where
  same_first : List FixedQubit → List FixedQubit → Bool
  same_first (p ∷ ps) (q ∷ qs) = is_same_qubit p q
  same_first _ _ = false

abbrev pub any_clashes : List TypedQubits → TypedQubits → Bool
any_clashes [] q = false
any_clashes (a ∷ done) q = clashes a q || any_clashes done q

-- the size of the first register, where there is one
abbrev pub size_of_all : List TypedQubits → Option ℕ
size_of_all [] = None
size_of_all (qubits.Register register ∷ rest) = Some (length register)
size_of_all (qubits.Single q ∷ rest) = size_of_all rest

abbrev pub same_size : Place → Option ℕ → TypedQubits → Checked (Unit {0})
same_size place (Some n) (qubits.Register register) = count_fits place n (length register)
same_size place _ _ = Ok tt

unfoldable pub operands_from : Names → Place → List TypedQubits → List Operand → Checked (List TypedQubits)
operands_from names place done [] = Ok done
operands_from names place done (o ∷ rest) =
    and_then (operand_qubits names place o) (λ q.
    and_then (same_size place (size_of_all done) q) (λ _.
    and_then (unless (any_clashes done q) (refusal.E11 place cause.Qubit)) (λ _. operands_from names place (done ++ q ∷ []) rest)))

abbrev pub singles : List TypedQubits → List TypedQubit
singles [] = []
singles (qubits.Single q ∷ rest) = q ∷ singles rest
singles (qubits.Register register ∷ rest) = singles rest

-- ---- calls

-- one call on single qubits, or one for each place of the registers
abbrev pub gate_action : Place → GateUse → Option ℕ → List TypedQubits → TypedAction
gate_action place used None operands = action.Gate (record { place = place; used = used; operands = singles operands })
gate_action place used (Some size) operands = action.Broadcast (record { place = place; used = used; operands = operands; size = size })

unfoldable pub call_with : Place → List GateBody → List Expr → List Operand → List GateModifier → Gate → Names → Checked TypedAction
call_with place gates arguments operands modifiers gate names =
    and_then (count_fits place gate.parameters (length arguments)) (λ _.
    and_then (phases_from names place [] arguments) (λ phases.
    and_then (count_fits place (controls modifiers + gate.qubits) (length operands)) (λ _.
    and_then (operands_from names place [] operands) (λ all.
    Ok (gate_action place (record {
      gates =
          gates;
      modifiers = modifiers;
      gate = gate.called;
      arguments = phases;
    }) (size_of_all all) all)))))

unfoldable pub gate_call : Place → Bool → List GateBody → GateCall → Names → Checked TypedAction
gate_call place included gates call names =
    and_then (modifiers_from names place [] call.modifiers) (λ modifiers.
    and_then (gate_called names included place call.gate) (λ gate.
    call_with place gates (written_arguments call.gate) call.operands modifiers gate names))
