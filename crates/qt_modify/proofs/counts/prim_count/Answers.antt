use Rattle.std.proofs.Common.{List, sym, ap, ◌∙◌}
use Rattle.qt_gate_calls.specs.declared.body.GateModifier.{GateModifier}
use Rattle.qt_gate_calls.specs.Counts.{call_count, primitive_counts}
use Rattle.qt_gate_calls.specs.Stopped.{stopped}
use Rattle.qt_modify.proofs.Lengths.{primitives_counted}
use Rattle.qt_modify.proofs.counts.prim_count.Goals as goal

pub returns-clause-primitives : goal.returns-clause-primitives
returns-clause-primitives c =
    let used = c.args.call.now.used in
    λ angles controls qubits.
    c.count-count.ensures.primitives
    ∙ ap (λ (ms : List GateModifier). stopped (call_count (primitive_counts used.gates) ms used.gate)) c.as_slice.ensures
    ∙ sym (primitives_counted used.gates used.modifiers used.gate angles controls qubits)
