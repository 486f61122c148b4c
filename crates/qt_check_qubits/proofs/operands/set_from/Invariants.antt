use Rattle.std.proofs.Common.{◌≡◌, [], length}
use Rattle.qt_typing.specs.Qubits.{set_from}
use Rattle.qt_check_qubits.proofs.operands.set_from.Given as goal

abbrev pub invariant-loop-exprs : goal.invariant-loop-exprs
invariant-loop-exprs l = set_from l.names l.place l.register l.chosen l.exprs ≡ set_from l.names l.place l.register [] l.fn.exprs

abbrev pub decreases-loop-exprs : goal.decreases-loop-exprs
decreases-loop-exprs l = length l.exprs
