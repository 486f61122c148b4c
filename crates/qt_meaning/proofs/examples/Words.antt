-- Short words for writing typed programs.
use Rattle.std.specs.Prelude.{ℕ, zero, suc, ◌+◌, List, [], ◌∷◌, Option, Some, None, pos, ℤ, codes}
use Rattle.qt_tree.specs.declared.place.Place.{Place}
use Rattle.qt_root2.specs.Real.{Real}
use Rattle.qt_value.specs.declared.types.ValueType.{ValueType}
use Rattle.qt_value.specs.declared.types.ValueType.TheVariants as kind
use Rattle.qt_gate_calls.specs.declared.body.Called.TheVariants as called
use Rattle.qt_gate_calls.specs.declared.body.GateModifier.{GateModifier}
use Rattle.qt_gate_calls.specs.Standard.{standard_bodies}
use Rattle.qt_registers.specs.declared.fixed.FixedQubit.TheVariants as fixed
use Rattle.qt_meaning.specs.Points.{Signal, Leaf}
use Rattle.qt_typed.specs.declared.call.Span.{Span}
use Rattle.qt_typed.specs.declared.call.TypedQubit.{TypedQubit}
use Rattle.qt_typed.specs.declared.call.TypedQubit.TheVariants as qubit
use Rattle.qt_typed.specs.declared.call.TypedQubits.{TypedQubits}
use Rattle.qt_typed.specs.declared.call.TypedQubits.TheVariants as qubits
use Rattle.qt_typed.specs.declared.expression.TypedExpr.{TypedExpr}
use Rattle.qt_typed.specs.declared.expression.TypedExpr.TheVariants as expression
use Rattle.qt_typed.specs.declared.expression.TypedPhase.{TypedPhase}
use Rattle.qt_typed.specs.declared.expression.TypedStep.TheVariants as step
use Rattle.qt_typed.specs.declared.expression.TypedTarget.{TypedTarget}
use Rattle.qt_typed.specs.declared.expression.TypedVariable.TheVariants as variable
use Rattle.qt_typed.specs.declared.program.TypedOutput.{TypedOutput}
use Rattle.qt_typed.specs.declared.program.TypedSubroutine.{TypedSubroutine}
use Rattle.qt_typed.specs.declared.program.Typed.{Typed}
use Rattle.qt_typed.specs.declared.statement.Spot.{Spot}
use Rattle.qt_typed.specs.declared.statement.TypedAction.{TypedAction}
use Rattle.qt_typed.specs.declared.statement.TypedAction.TheVariants as action
use Rattle.qt_typed.specs.declared.statement.TypedRight.TheVariants as right
use Rattle.qt_typed.specs.declared.statement.TypedLoop.TheVariants as loop
use Rattle.qt_typed.specs.declared.statement.TypedSequence.{TypedSequence}
use Rattle.qt_typed.specs.declared.statement.TypedStatement.{TypedStatement}
use Rattle.qt_typed.specs.declared.statement.TypedStatement.TheVariants as statement

-- the statement on that line
abbrev pub line : ℕ → Place
line n = record { file = 0; line = n; column = 1 }

abbrev pub spot : ℕ → Spot
spot n = record { place = line n; tokens = 1 }

abbrev pub at_line : ℕ → TypedAction → TypedStatement
at_line n action = statement.Simple (spot n) action

abbrev pub span : ℕ → ℕ → Span
span first count = record { first = first; count = count }

-- ---- qubits and gates

abbrev pub q : ℕ → TypedQubit
q n = qubit.Fixed (fixed.Number n)

abbrev pub one : ℕ → TypedQubits
one n = qubits.Single (q n)

-- the standard gate with that number
abbrev pub call : List GateModifier → ℕ → List TypedPhase → List TypedQubit → TypedAction
call modifiers number arguments operands =
    action.Gate (record {
      place = line 0;
      used = record { gates = standard_bodies; modifiers = modifiers; gate = called.Gate number; arguments = arguments };
      operands = operands;
    })

abbrev pub gate : ℕ → List TypedQubit → TypedAction
gate number operands = call [] number [] operands

abbrev pub h : ℕ → TypedAction
h n = gate 11 (q n ∷ [])

abbrev pub t : ℕ → TypedAction
t n = gate 6 (q n ∷ [])

abbrev pub x : ℕ → TypedAction
x n = gate 9 (q n ∷ [])

abbrev pub z : ℕ → TypedAction
z n = gate 4 (q n ∷ [])

abbrev pub cx : ℕ → ℕ → TypedAction
cx c n = gate 18 (q c ∷ q n ∷ [])

-- ---- expressions

abbrev pub constant : ValueType → ℕ → TypedExpr
constant kind bits = expression.Constant (record { kind = kind; bits = bits })

abbrev pub whole : ℕ → TypedExpr
whole n = constant (kind.Int 64) n

abbrev pub read : ValueType → ℕ → TypedExpr
read kind n = expression.Slot kind n

-- the bit at a place of a variable
abbrev pub bit_of : ValueType → ℕ → ℕ → TypedExpr
bit_of kind n place = expression.Bit (read kind n) (whole place)

-- ---- variables

abbrev pub slot : ValueType → ℕ → TypedTarget
slot kind n = record { variable = variable.Slot kind n; steps = []; kind = kind }

abbrev pub bit : ℕ → TypedTarget
bit n = slot (kind.Bit 1) n

-- the bit at a place of a variable
abbrev pub bit_in : ValueType → ℕ → ℕ → TypedTarget
bit_in of n place = record { variable = variable.Slot of n; steps = step.At (whole place) ∷ []; kind = kind.Bit 1 }

-- the outcome of a qubit goes to a bit of a variable
abbrev pub measure_to : ℕ → ValueType → ℕ → ℕ → TypedAction
measure_to n kind s place = action.Assign (bit_in kind s place) (right.Measure (one n))

abbrev pub assign : TypedTarget → TypedExpr → TypedAction
assign target value = action.Assign target (right.Value value)

abbrev pub reset : ℕ → TypedAction
reset n = action.Reset (one n)

-- ---- statements with bodies, without variables of their own

abbrev pub no_slots : Span
no_slots = span 0 0

abbrev pub when : ℕ → TypedExpr → List TypedStatement → List TypedStatement → TypedStatement
when n condition body otherwise = statement.If (spot n) condition body no_slots otherwise no_slots

-- a `for` whose variable and what it keeps have that span
abbrev pub each : ℕ → ValueType → TypedSequence → Span → List TypedStatement → Span → TypedStatement
each n kind values own body slots = statement.Loop (spot n) (loop.For kind values) own body slots

abbrev pub while : ℕ → TypedExpr → List TypedStatement → TypedStatement
while n condition body = statement.Loop (spot n) (loop.While condition) no_slots body no_slots

-- a bit register's or a bit's slot gets the outcome of a qubit
abbrev pub measure : ℕ → ℕ → TypedAction
measure n s = action.Assign (bit s) (right.Measure (one n))

abbrev pub output : ValueType → ℕ → TypedOutput
output kind n = record { name = codes "c"; kind = kind; slot = n; lengths = [] }

-- a program without subroutines and inputs
abbrev pub program : ℕ → ℕ → List TypedOutput → List TypedStatement → Typed
program qubits slots outputs body =
    record {
      qubits = qubits;
      slots = slots;
      size = 0;
      gates = standard_bodies;
      subroutines = [];
      body = body;
      outputs = outputs;
      start = [];
      end = line 0;
    }

-- how the leaves ended
abbrev pub signals : List Leaf → List Signal
signals [] = []
signals (l ∷ ls) = l.signal ∷ signals ls

-- the slots at the leaves
abbrev pub stores : List Leaf → List (List ℕ)
stores [] = []
stores (l ∷ ls) = l.point.store ∷ stores ls

-- (a + b√2) / 2^k
abbrev pub real : ℤ → ℤ → ℕ → Real
real a b k = record { a = a; b = b; k = k }
