use Rattle.std.proofs.Common.{◌≡◌, length}
use Rattle.qt_typing.specs.GateItems.{declare_wires}
use Rattle.qt_check_gate_items.proofs.names.declare_wires.Given as goal

abbrev pub invariant-loop-names : goal.invariant-loop-names
invariant-loop-names l = declare_wires l.place l.number l.names l.state ≡ declare_wires l.place 0 l.fn.names l.fn.state

abbrev pub decreases-loop-names : goal.decreases-loop-names
decreases-loop-names l = length l.names
