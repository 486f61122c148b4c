-- What flattening answers, computed: above the bound of the size, with an angle that is no multiple of π/4, and else.
use denote.Hole.Carrier.{hidden}
use Rattle.std.proofs.Common.{◌≡◌, refl, ℕ, List, [], ◌∷◌, None, pos}
use Rattle.qt_typed.specs.declared.expression.TypedExpr.TheBlock.{hidden-the_row-TypedExpr-0, hidden-the_row-TypedExpr-1}
use Rattle.qt_gate_calls.specs.declared.body.Called.TheVariants as called
use Rattle.qt_typed.specs.declared.call.GateUse.{GateUse}
use Rattle.qt_typed.specs.declared.expression.TypedPhase.TheBlock.{hidden-the_row-TypedPhase-0}
use Rattle.qt_typed.specs.declared.expression.TypedPhase.TheVariants as phase
use Rattle.qt_typed.specs.declared.program.TypedSubroutine.{TypedSubroutine}
use Rattle.qt_typed.specs.declared.program.Typed.{Typed}
use Rattle.qt_flat_code.specs.Flattening.{Flat, TooLong, WrongAngle, flattened}
use Rattle.qt_typed.specs.declared.statement.TypedAction.TheVariants as action
use Rattle.qt_typed.specs.declared.statement.TypedStatement.{TypedStatement}
use Rattle.qt_typed.specs.declared.statement.TypedStatement.TheBlock.{hidden-the_row-TypedStatement-0}
use Rattle.qt_flat_code.specs.Programs.{parts_of}
use Rattle.qt_flat_code.proofs.examples.Words.{at_line, line, program_with, span}

-- ---- def f() { gphase(pi / 8); } f(); of several sizes

abbrev turned : GateUse
turned = record { gates = []; modifiers = []; gate = called.GlobalPhase; arguments = phase.Fixed (pos 536870912) ∷ [] }

abbrev f : TypedSubroutine
f =
    record {
      parameters = [];
      result = None;
      slots = 0;
      body = at_line 1 (action.Gate (record { place = line 1; used = turned; operands = [] })) ∷ [];
    }

abbrev called_once : List TypedStatement
called_once = at_line 2 (action.Call (record { subroutine = 0; frame = span 0 0; values = []; qubits = [] })) ∷ []

abbrev of_size : ℕ → List TypedStatement → Typed
of_size n body = record (program_with 0 (f ∷ []) body) { size = n }

long : flattened (of_size 1048577 called_once) ≡ TooLong 1048577
unfolding hidden hidden-the_row-TypedExpr-0 hidden-the_row-TypedExpr-1 hidden-the_row-TypedStatement-0 hidden-the_row-TypedPhase-0
long = refl

wrong : flattened (of_size 1048576 called_once) ≡ WrongAngle (line 1) (pos 536870912)
unfolding hidden hidden-the_row-TypedExpr-0 hidden-the_row-TypedExpr-1 hidden-the_row-TypedStatement-0 hidden-the_row-TypedPhase-0
wrong = refl

-- the subroutine isn't put in, so its angle isn't tested
flat : flattened (of_size 1048576 []) ≡ Flat (parts_of (of_size 1048576 []))
unfolding hidden hidden-the_row-TypedExpr-0 hidden-the_row-TypedExpr-1 hidden-the_row-TypedStatement-0 hidden-the_row-TypedPhase-0
flat = refl
