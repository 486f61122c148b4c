use Rattle.std.proofs.Common.{◌≡◌, ◌+◌, ◌≤◌, length}
use Rattle.qt_gate_calls.specs.Counts.{calls_count, calls_operators}
use Rattle.qt_gate_calls.specs.Stopped.{stopped, primitives_in, operators_in}
use Rattle.qt_gate_calls.proofs.counts.calls_count.Given as goal

abbrev pub invariant-loop-calls : goal.invariant-loop-calls
invariant-loop-calls l = record {
  primitives :
      stopped (l.count.primitives + calls_count (primitives_in l.counts) l.calls) ≡ stopped (calls_count (primitives_in l.counts) l.fn.calls);
  operators :
      stopped (l.count.operators + calls_operators (operators_in l.counts) l.calls)
      ≡ stopped (calls_operators (operators_in l.counts) l.fn.calls);
  some_primitives : l.count.primitives ≤ 4294967295;
  some_operators : l.count.operators ≤ 4294967295;
}

abbrev pub decreases-loop-calls : goal.decreases-loop-calls
decreases-loop-calls l = length l.calls
