-- The angles of the subroutines so far are known.
use Rattle.std.proofs.Common.{◌≡◌, List, take, length}
use Rattle.qt_typed.specs.declared.statement.TypedStatement.{TypedStatement}
use Rattle.qt_fixed_angles.specs.Reached.{AreKnown, Covers}
use Rattle.qt_fixed_angles.proofs.program.angles_of.Given as goal

abbrev pub invariant-loop-number : goal.invariant-loop-number
invariant-loop-number l = record {
  known : (body : List TypedStatement) → Covers l.subroutines body l.flags → AreKnown l.flags (take l.number l.subroutines) l.known;
  len : length l.known ≡ l.number;
}
