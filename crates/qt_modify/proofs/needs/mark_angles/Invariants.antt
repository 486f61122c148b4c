use Rattle.std.proofs.Common.{take}
use Rattle.qt_modify.specs.Needs.{angles_need, flag_at}
use Rattle.qt_modify.specs.Known.{Marks}
use Rattle.qt_modify.proofs.needs.mark_angles.Given as goal

abbrev pub invariant-loop-number : goal.invariant-loop-number
invariant-loop-number l = Marks l.fn.flags l.flags (angles_need (flag_at l.wants) 0 (take l.number l.angles))
