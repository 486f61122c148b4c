use Rattle.std.proofs.Common.{◌≡◌, ◌+◌, ◌-◌, ℕ, length}
use Rattle.qt_modify.specs.Needs.{flag_at}
use Rattle.qt_modify.proofs.needs.lengthened.Given as goal

abbrev pub invariant-loop-flags : goal.invariant-loop-flags
invariant-loop-flags l = (i : ℕ) → flag_at l.flags i ≡ flag_at l.fn.flags i

abbrev pub decreases-loop-flags : goal.decreases-loop-flags
decreases-loop-flags l = l.number + 1 - length l.flags
