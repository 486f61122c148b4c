-- What the typing gives fits (OpenQASM 3.0 live specification, "Types and Casting" and "Classical instructions"; Cross et al. 2022).
use Rattle.std.specs.Prelude.{◌≡◌, ℕ, List, Option, Ok}
use Rattle.qt_const_rules.specs.declared.modes.Mode.{Mode}
use Rattle.qt_tree.specs.declared.expression.Expr.{Expr}
use Rattle.qt_tree.specs.declared.place.Place.{Place}
use Rattle.std.specs.List.{All}
use Rattle.qt_gate_calls.specs.declared.body.GateBody.{GateBody}
use Rattle.qt_tree.specs.declared.label.Setting.{Setting}
use Rattle.qt_tree.specs.declared.program.GateItem.{GateItem}
use Rattle.qt_tree.specs.declared.program.Program.{Program}
use Rattle.qt_tree.specs.declared.statement.Statement.{Statement}
use Rattle.qt_typed.specs.declared.program.Typed.{Typed}
use Rattle.qt_typed.specs.declared.statement.TypedStatement.{TypedStatement}
use Rattle.qt_meaning.specs.WellFormed.{BodyCallFits, GatesFit, Scope, gate_sizes}
use Rattle.qt_typing.specs.Expressions.{typed_of}
use Rattle.qt_typing.specs.GateItems.{gate_body_of}
use Rattle.qt_typing.specs.Programs.{typing_of}
use Rattle.qt_typing.specs.Statements.{statement_typing}
use Rattle.qt_typing.specs.declared.state.Around.{Around}
use Rattle.qt_typing.specs.declared.state.State.{State}
use Rattle.qt_typing.specs.declared.names.Names.{Names}
use Rattle.qt_typing.specs.declared.operand.Operand.{Operand}
use Rattle.qt_typing_laws.specs.Bodies.{SeesGates}
use Rattle.qt_typing_laws.specs.Fits.{NamesFit, OperandFits}
use Rattle.qt_typing_laws.specs.Seen.{IsSeen, StatementFits}

-- what an expression is typed as fits the frame, and has the type that is told
abbrev pub ExpressionsAreTyped : Type 0
ExpressionsAreTyped =
    (slots : ℕ) (names : Names) (m : Mode) (place : Place) (expr : Expr) (typed : Operand) → NamesFit slots names
    → typed_of names m place expr ≡ Ok typed → OperandFits slots typed

-- where what a statement sees is sound, each action that it is typed as is well formed, and what the next one sees is sound
abbrev pub StatementsAreWellFormed : Type 0
StatementsAreWellFormed =
    (scope : Scope) (statement : Statement) (around : Around) (old new : State) (typed : Option TypedStatement) → IsSeen scope old
    → statement_typing statement around old ≡ Ok (typed, new) → StatementFits scope typed × IsSeen scope new

-- each call in the body of a gate has as many qubits as its gate and its controls, all different and of the body, and is of a gate before
abbrev pub GateBodiesAreWellFormed : Type 0
GateBodiesAreWellFormed =
    (gate : GateItem) (old new : State) (body : GateBody) → SeesGates old → gate_body_of gate old ≡ Ok (body, new)
    → All (BodyCallFits (gate_sizes old.gates) body.qubits) body.calls

-- the gates of a program that has a typing are well formed
abbrev pub ProgramGatesAreWellFormed : Type 0
ProgramGatesAreWellFormed =
    (settings : List Setting) (program : Program) (typed : Typed) → typing_of settings program ≡ Ok typed → GatesFit typed.gates
