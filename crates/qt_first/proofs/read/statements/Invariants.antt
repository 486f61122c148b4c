use Rattle.std.proofs.Common.{◌≡◌, ◌++◌, length}
use Rattle.std.specs.List.{flat_map}
use Rattle.qt_first.specs.Form.{ArePlaced, statement_text}
use Rattle.qt_first.proofs.read.statements.Given as goal

abbrev pub invariant-loop-rest : goal.invariant-loop-rest
invariant-loop-rest l = record {
  spelled : l.text ≡ flat_map statement_text l.statements.items ++ l.rest;
  placed : ArePlaced l.registers.qubits l.registers.bits l.statements.items;
}

abbrev pub decreases-loop-rest : goal.decreases-loop-rest
decreases-loop-rest l = length l.rest
