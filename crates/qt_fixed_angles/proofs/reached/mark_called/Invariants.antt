use Rattle.std.proofs.Common.{◌≡◌, ◌≤◌, ℕ, length}
use Rattle.std.specs.Prelude.{true}
use Rattle.qt_modify.specs.Needs.{flag_at}
use Rattle.qt_fixed_angles.proofs.Marking.{AreClosedFrom}
use Rattle.qt_fixed_angles.proofs.reached.mark_called.Given as goal

-- the subroutines from that number on are closed
abbrev pub invariant-subroutines : goal.invariant-subroutines
invariant-subroutines l = record {
  kept : (i : ℕ) → flag_at l.fn.flags i ≡ true → flag_at l.flags i ≡ true;
  closed : AreClosedFrom l.number l.subroutines l.flags;
  len : length l.flags ≡ length l.fn.flags;
  within : l.number ≤ length l.subroutines;
}

abbrev pub decreases-subroutines : goal.decreases-subroutines
decreases-subroutines l = l.number
