use Rattle.std.proofs.Common.{◌≡◌, ◌++◌, length}
use Rattle.qt_modify.specs.Calls.{behind_operands, references_from}
use Rattle.qt_modify.proofs.call.references_from.Given as goal

abbrev pub invariant-operands : goal.invariant-operands
invariant-operands l = record {
  same : l.references ++ references_from l.next l.operands ≡ references_from l.fn.next l.fn.operands;
  behind : behind_operands l.next l.operands ≡ behind_operands l.fn.next l.fn.operands;
}

abbrev pub decreases-operands : goal.decreases-operands
decreases-operands l = length l.operands
