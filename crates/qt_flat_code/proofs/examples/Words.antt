-- Short words for writing typed programs, and for what is seen of their leaves.
use Rattle.std.specs.Prelude.{ℕ, List, [], ◌∷◌}
use Rattle.qt_tree.specs.declared.place.Place.{Place}
use Rattle.qt_value.specs.declared.types.ValueType.{ValueType}
use Rattle.qt_value.specs.declared.types.ValueType.TheVariants as kind
use Rattle.qt_registers.specs.declared.fixed.FixedQubit.TheVariants as fixed
use Rattle.qt_typed.specs.declared.call.Span.{Span}
use Rattle.qt_typed.specs.declared.call.TypedQubit.TheVariants as qubit
use Rattle.qt_typed.specs.declared.call.TypedQubits.{TypedQubits}
use Rattle.qt_typed.specs.declared.call.TypedQubits.TheVariants as qubits
use Rattle.qt_typed.specs.declared.expression.TypedExpr.{TypedExpr}
use Rattle.qt_typed.specs.declared.expression.TypedExpr.TheVariants as expression
use Rattle.qt_typed.specs.declared.expression.TypedTarget.{TypedTarget}
use Rattle.qt_typed.specs.declared.expression.TypedVariable.TheVariants as variable
use Rattle.qt_typed.specs.declared.program.Typed.{Typed}
use Rattle.qt_typed.specs.declared.program.TypedSubroutine.{TypedSubroutine}
use Rattle.qt_typed.specs.declared.statement.Spot.{Spot}
use Rattle.qt_typed.specs.declared.statement.TypedAction.{TypedAction}
use Rattle.qt_typed.specs.declared.statement.TypedStatement.{TypedStatement}
use Rattle.qt_typed.specs.declared.statement.TypedStatement.TheVariants as statement
use Rattle.qt_meaning.specs.Distribution.{leaves_of}
use Rattle.qt_meaning.specs.Points.{Event, Leaf, On, Point, Ended, Signal}
use Rattle.qt_instructions.specs.declared.instruction.Instr.{Instr}
use Rattle.qt_code.specs.Tail.{leaves_from_start}
use Rattle.qt_flat_code.specs.Programs.{instructions_in, lines_of, parts_of}

-- ---- programs

abbrev pub line : ℕ → Place
line n = record { file = 0; line = n; column = 1 }

abbrev pub spot : ℕ → Spot
spot n = record { place = line n; tokens = 1 }

abbrev pub at_line : ℕ → TypedAction → TypedStatement
at_line n action = statement.Simple (spot n) action

abbrev pub span : ℕ → ℕ → Span
span first count = record { first = first; count = count }

-- a program of one qubit
abbrev pub program_with : ℕ → List TypedSubroutine → List TypedStatement → Typed
program_with slots subroutines body =
    record {
      qubits = 1;
      slots = slots;
      size = 100;
      gates = [];
      subroutines = subroutines;
      body = body;
      outputs = [];
      start = [];
      end = line 100;
    }

abbrev pub program : ℕ → List TypedStatement → Typed
program slots body = program_with slots [] body

-- ---- parts of statements

abbrev pub constant : ValueType → ℕ → TypedExpr
constant of bits = expression.Constant (record { kind = of; bits = bits })

abbrev pub small : ℕ → TypedExpr
small n = constant (kind.Uint 8) n

abbrev pub whole : ℕ → TypedExpr
whole n = constant (kind.Int 64) n

abbrev pub read : ℕ → TypedExpr
read n = expression.Slot (kind.Uint 8) n

abbrev pub to : ℕ → TypedTarget
to n = record { variable = variable.Slot (kind.Uint 8) n; steps = []; kind = kind.Uint 8 }

abbrev pub q : TypedQubits
q = qubits.Single (qubit.Fixed (fixed.Number 0))

-- ---- the code of a program

abbrev pub code_of : Typed → List Instr
code_of typed = instructions_in (lines_of typed)

-- ---- leaves

-- what is seen of a leaf: its signal, the end of a program's text being an end, and what is told of the point of an end, or the trail of
-- a fault or of want of fuel
pub data Seen : Type 0 where
  EndedAt : Point → Seen
  StoppedAt : Signal → List Event → Seen

abbrev pub seen_of : Signal → Point → Seen
seen_of On p = EndedAt p
seen_of Ended p = EndedAt p
seen_of s p = StoppedAt s p.trail

abbrev pub seen : List Leaf → List Seen
seen [] = []
seen (l ∷ ls) = seen_of l.signal l.point ∷ seen ls

abbrev pub in_meaning : Typed → ℕ → List Seen
in_meaning typed fuel = seen (leaves_of typed fuel)

abbrev pub in_code : Typed → ℕ → List Seen
in_code typed fuel = seen (leaves_from_start (parts_of typed) fuel)

abbrev pub stores_of : List Seen → List (List ℕ)
stores_of [] = []
stores_of (EndedAt p ∷ ls) = p.store ∷ stores_of ls
stores_of (StoppedAt s events ∷ ls) = stores_of ls

abbrev pub signals_of : List Seen → List Signal
signals_of [] = []
signals_of (EndedAt p ∷ ls) = Ended ∷ signals_of ls
signals_of (StoppedAt s events ∷ ls) = s ∷ signals_of ls
