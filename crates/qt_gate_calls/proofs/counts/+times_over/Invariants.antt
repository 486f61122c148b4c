use Rattle.std.proofs.Common.{length}
use Rattle.qt_gate_calls.proofs.counts.+times_over.Given as goal

abbrev pub decreases-times_over : goal.decreases-times_over
decreases-times_over l = length l.modifiers.now
