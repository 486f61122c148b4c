-- Short words for writing programs of the syntax tree, and for running the typing on them.
use Rattle.std.specs.Prelude.{ℕ, Bool, List, [], ◌∷◌, Option, Some, None, Ok, Err}
use denote.Hole.Carrier.{hidden}
use Rattle.qt_tree.specs.declared.expression.Expr.{Expr, roll-Expr}
use Rattle.qt_tree.specs.declared.expression.Index.{Index, roll-Index}
use Rattle.qt_tree.specs.declared.expression.Scalar.{Scalar, roll-Scalar}
use Rattle.qt_tree.specs.declared.expression.Range.{Range, roll-Range}
use Rattle.qt_tree.specs.declared.expression.Expr.TheOpen as e
use Rattle.qt_tree.specs.declared.expression.InfixOperator.{InfixOperator}
use Rattle.qt_tree.specs.declared.expression.PrefixOperator.{PrefixOperator}
use Rattle.qt_tree.specs.declared.place.Place.{Place}
use Rattle.qt_tree.specs.declared.program.Item.{Item}
use Rattle.qt_tree.specs.declared.program.Item.TheVariants as item
use Rattle.qt_tree.specs.declared.program.ListItem.{ListItem}
use Rattle.qt_tree.specs.declared.program.ListItem.TheBlock.{hidden-the_row-ListItem-0}
use Rattle.qt_tree.specs.declared.program.Parameter.{Parameter}
use Rattle.qt_tree.specs.declared.program.Program.{Program}
use Rattle.qt_tree.specs.declared.program.VersionNumber.{VersionNumber}
use Rattle.qt_tree.specs.declared.statement.Operand.{Operand}
use Rattle.qt_tree.specs.declared.statement.Statement.{Statement, roll-Statement}
use Rattle.qt_tree.specs.declared.statement.StatementForm.{StatementForm, roll-StatementForm}
use Rattle.qt_tree.specs.declared.statement.StatementForm.TheOpen.{StatementForm-F}
use Rattle.qt_tree.specs.declared.statement.Target.{Target}
use Rattle.qt_typed.specs.declared.expression.TypedExpr.TheBlock.{hidden-the_row-TypedExpr-0, hidden-the_row-TypedExpr-1}
use Rattle.qt_typed.specs.declared.expression.TypedPhase.TheBlock.{hidden-the_row-TypedPhase-0}
use Rattle.qt_typed.specs.declared.program.Typed.{Typed}
use Rattle.qt_typed.specs.declared.statement.TypedStatement.TheBlock.{hidden-the_row-TypedStatement-0}
use Rattle.qt_const.specs.Constants as qt_const_Constants
use Rattle.qt_const.specs.Indexes as qt_const_Indexes
use Rattle.qt_const.specs.Operators as qt_const_Operators
use Rattle.qt_const.specs.Value as qt_const_Value
use Rattle.qt_const_rules.specs.Angles as qt_const_rules_Angles
use Rattle.qt_names.specs.Scopes as qt_names_Scopes
use Rattle.qt_registers.specs.Registers as qt_registers_Registers
use Rattle.qt_value.specs.BitPlaces as qt_value_BitPlaces
use Rattle.qt_value.specs.Results as qt_value_Results
use Rattle.qt_gate_calls.specs.Standard as qt_gate_calls_Standard
use Rattle.qt_typing.specs.Environment
use Rattle.qt_typing.specs.Conversions
use Rattle.qt_typing.specs.Sorts
use Rattle.qt_typing.specs.Indexes
use Rattle.qt_typing.specs.Operators
use Rattle.qt_typing.specs.Expressions
use Rattle.qt_typing.specs.Qubits
use Rattle.qt_typing.specs.Targets
use Rattle.qt_typing.specs.Calls
use Rattle.qt_typing.specs.Declarations
use Rattle.qt_typing.specs.Statements
use Rattle.qt_typing.specs.Subroutines
use Rattle.qt_typing.specs.Gates
use Rattle.qt_typing.specs.GateItems
use Rattle.qt_typing.specs.Inputs
use Rattle.qt_typing.specs.Programs
use Rattle.qt_typing.specs.Checked.{Checked}

-- ---- expressions

abbrev pub whole : ℕ → Expr
whole n = roll-Expr (e.Whole n)

abbrev pub digits : ℕ → ℕ → Expr
digits bits length = roll-Expr (e.BitText bits length)

abbrev pub pi : Expr
pi = roll-Expr e.Pi

abbrev pub tau : Expr
tau = roll-Expr e.Tau

abbrev pub truth : Bool → Expr
truth b = roll-Expr (e.Expr::Bool b)

abbrev pub parenthesized : Expr → Expr
parenthesized inner = roll-Expr (e.Parenthesized inner)

abbrev pub name : List ℕ → Expr
name text = roll-Expr (e.Name text [])

abbrev pub name_in : List ℕ → List (List Index) → Expr
name_in text brackets = roll-Expr (e.Name text brackets)

abbrev pub call : List ℕ → List Expr → Expr
call text arguments = roll-Expr (e.Call text arguments)

abbrev pub cast : Scalar → Expr → Expr
cast to operand = roll-Expr (e.Cast to operand)

abbrev pub size_of : List ℕ → Option Expr → Expr
size_of text dimension = roll-Expr (e.SizeOf text dimension)

abbrev pub sign : PrefixOperator → Expr → Expr
sign operator operand = roll-Expr (e.Unary operator operand)

abbrev pub between : InfixOperator → Expr → Expr → Expr
between operator left right = roll-Expr (e.Binary operator left right)

-- ---- indexes and types

abbrev pub at : Expr → Index
at place = roll-Index (e.At place)

abbrev pub range : Option Expr → Option Expr → Option Expr → Range
range start step end = roll-Range (record { start = start; step = step; end = end })

abbrev pub places_of : Range → Index
places_of range = roll-Index (e.Range range)

abbrev pub places : List Expr → Index
places all = roll-Index (e.Set all)

abbrev pub bool : Scalar
bool = roll-Scalar e.Scalar::Bool

abbrev pub bit : Option Expr → Scalar
bit size = roll-Scalar (e.Bit size)

abbrev pub int : Option Expr → Scalar
int size = roll-Scalar (e.Int size)

abbrev pub uint : Option Expr → Scalar
uint size = roll-Scalar (e.Uint size)

abbrev pub angle : Option Expr → Scalar
angle size = roll-Scalar (e.Angle size)

-- ---- parts of statements

abbrev pub all_of : List ℕ → Operand
all_of text = record { name = text; index = None }

abbrev pub qubits : List ℕ → Index → Operand
qubits text index = record { name = text; index = Some index }

abbrev pub variable : List ℕ → Target
variable text = record { name = text; brackets = [] }

abbrev pub target : List ℕ → List (List Index) → Target
target text brackets = record { name = text; brackets = brackets }

-- ---- statements and programs

-- the line and the column
abbrev pub at_place : ℕ → ℕ → Place
at_place line column = record { file = 0; line = line; column = column }

abbrev pub statement : ℕ → ℕ → StatementForm-F StatementForm Statement → Statement
statement line column form = roll-Statement (record { place = at_place line column; form = roll-StatementForm form })

abbrev pub array_at : Place → Scalar → List Expr → List ℕ → Option (List ListItem) → Item
array_at place scalar dimensions text value =
    item.Array (record { place = place; scalar = scalar; dimensions = dimensions; name = text; value = value })

abbrev pub subroutine : Place → List ℕ → List Parameter → Option Scalar → List Statement → Item
subroutine place text parameters result body =
    item.Definition (record { place = place; name = text; parameters = parameters; result = result; body = body })

abbrev pub program : List Item → Program
program items = record { versions = []; items = items; end = at_place 0 0 }

abbrev pub versioned : VersionNumber → List Item → Program
versioned number items = record { versions = (record { place = at_place 1 1; number = number }) ∷ []; items = items; end = at_place 0 0 }

-- how many qubits and slots a program has
abbrev pub numbers : Checked Typed → Checked (ℕ × ℕ)
numbers (Ok typed) = Ok (typed.qubits, typed.slots)
numbers (Err e) = Err e

-- all that unfolds when the typing runs on a program
unfoldable pub everything : Unit {0}
unfolding
    hidden hidden-the_row-ListItem-0 hidden-the_row-TypedExpr-0 hidden-the_row-TypedExpr-1 hidden-the_row-TypedPhase-0
    hidden-the_row-TypedStatement-0 qt_const_Constants.cast_to qt_const_Constants.dimension qt_const_Indexes.bit_of
    qt_const_Indexes.slice qt_const_Operators.of_values qt_const_Operators.of_phases qt_const_Operators.left_phase
    qt_const_Operators.right_phase qt_const_Operators.combined qt_const_Operators.applied qt_const_Value.called
    qt_const_rules_Angles.angle_of qt_names_Scopes.found_in qt_registers_Registers.progression qt_registers_Registers.program_qubits
    qt_registers_Registers.parameter_qubits qt_registers_Registers.stepped qt_value_BitPlaces.sum_below qt_value_Results.power
    qt_gate_calls_Standard.standard_gates Environment.constant_at Environment.number_at Environment.type_at Environment.take_slots
    Environment.take_qubits Environment.span_from Environment.named_in Environment.declare Environment.declare_in_both
    Environment.is_global Environment.enter Environment.leave Conversions.is_same Conversions.converts Conversions.is_zero_at
    Conversions.zero_as Conversions.as_type Conversions.phase_as Conversions.phase_at Conversions.wanted Conversions.truth_at
    Sorts.sort_of_named Sorts.is_variable Indexes.whole_index Indexes.fixed_place Indexes.placed_index Indexes.places_between
    Indexes.places_of_range Indexes.optional_number Indexes.range_places Indexes.bit_at Indexes.slice_at Indexes.bits_at Indexes.steps_from Indexes.element_from
    Indexes.reached Operators.unary_row Operators.before_operand Operators.operator_form Operators.zero_beside Operators.phase_beside
    Operators.value_beside Operators.right_beside Operators.two_values Operators.phase_and_whole Operators.whole_and_phase
    Operators.phase_first Operators.phase_second Operators.combined Operators.logical_of Operators.both_true Expressions.of_constant
    Expressions.constant_operand Expressions.storage_of Expressions.bits_of Expressions.variable_operand Expressions.named_constant
    Expressions.name_operand Expressions.arity Expressions.builtin_at Expressions.value_at Qubits.qubits_of Qubits.qubits_named
    Qubits.is_same_qubit Qubits.overlaps Qubits.repeats Qubits.fixed_in Qubits.indexed_in Qubits.qubit_in Qubits.qubits_in_range
    Qubits.set_from Qubits.qubits_in_set Qubits.qubits_indexed Qubits.qubits_at Qubits.operand_qubits Qubits.known_places
    Qubits.outcomes_fit Targets.target_in Targets.target_of_kind Targets.target_at Targets.is_fixed_variable Targets.measured_target
    Calls.argument_qubits Calls.single_fits Calls.register_fits Calls.argument Calls.arguments_from Calls.arguments
    Calls.subroutine_number Calls.number_called Calls.call_given Calls.framed Calls.calling Calls.right_form Calls.fits_type
    Calls.result_at Calls.call_as Calls.measured Calls.plain Calls.right_at Calls.optional_right Declarations.size_within
    Declarations.size_at Declarations.new_name Declarations.typed_name Declarations.variable_named Declarations.keep_variable
    Declarations.declare_variable Declarations.declared_with Declarations.valued Declarations.declaration_of Declarations.bits_size
    Declarations.bit_register Declarations.constant_as Declarations.constant_valued Declarations.declare_constant
    Declarations.constant_of Declarations.declare_qubits Declarations.optional_size Declarations.qubit_declaration
    Declarations.qubit_register Declarations.parts_from Declarations.alias_qubits Declarations.alias_of Declarations.element_type
    Declarations.lengths_from Declarations.array_values Declarations.optional_values Declarations.array_with Declarations.array_of
    Gates.modifier_of Gates.modifiers_from Gates.gate_at Gates.gate_called Gates.count_fits Gates.constant_units Gates.free_phase
    Gates.argument_phase Gates.phases_from Gates.clashes Gates.operands_from Gates.call_with Gates.gate_call Statements.assign_value
    Statements.assign_outcomes Statements.assign_result Statements.assignment Statements.op_of_compound Statements.update
    Statements.measure Statements.reset Statements.barrier Statements.call_statement Statements.gate_statement Statements.jump
    Statements.return Statements.loop_value Statements.bound Statements.optional_value Statements.range_values Statements.members_from
    Statements.named_values Statements.values_of Statements.kept Statements.loop_type Statements.added Statements.each
    Statements.closed Statements.inside Statements.scoped Statements.optional_body Statements.in_loop Statements.condition_at
    Statements.both_branches Statements.branches Statements.branching Statements.while_body Statements.while_loop Statements.for_inside
    Statements.for_body Statements.for_values Statements.for_loop Subroutines.value_parameter Subroutines.qubit_parameter
    Subroutines.parameter_of Subroutines.parameters_from Subroutines.result_type_at Subroutines.around_body Subroutines.turned_inside
    Subroutines.body_of Subroutines.result_and_body Subroutines.typed_inside Subroutines.subroutine_of Subroutines.declare_subroutine
    Subroutines.definition GateItems.body_angle GateItems.angles_from GateItems.body_call_with GateItems.body_call
    GateItems.body_barrier GateItems.body_from GateItems.declare_angles GateItems.declare_wires GateItems.gate_inside
    GateItems.gate_body_of GateItems.declare_gate GateItems.gate_item Inputs.keep_input Inputs.input_at Inputs.input_of
    Inputs.bits_written Inputs.starts_from Inputs.settings_fit Inputs.inputs_fit Programs.items_built Programs.versions_fit
    Programs.count_tokens Programs.include_standard Programs.keep_output Programs.output_at Programs.output_of Programs.item_typing
    Programs.items_from Programs.beginning Programs.program_at Programs.numbers_fit Programs.typing_of
everything = tt
