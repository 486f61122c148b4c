use Rattle.std.proofs.Common.{List, length, ◌+◌, ap, ◌∙◌}
use Rattle.std.proofs.lemmas.List.{length_push}
use Rattle.qt_gate_calls.specs.declared.body.BodyCall.{BodyCall}
use Rattle.qt_gate_calls.specs.declared.counts.GateCount.{GateCount}
use Rattle.qt_gate_calls.specs.Counts.{calls_count, calls_operators}
use Rattle.qt_gate_calls.specs.Stopped.{stopped, primitives_in, operators_in}
use Rattle.qt_gate_calls.proofs.Counted.{one_more_counted}
use Rattle.qt_gate_calls.proofs.counts.counts_of.Goals as goal

pub loop-body-preserved : goal.loop-body-preserved
loop-body-preserved c =
    let counts = c.loop-body.counts in
    let calls = c.as_slice-in-loop-body.result.now in
    let count = c.calls_count-count.result in
    let pushed = c.in_ok-push.ensures.ok in record {
      as_many = ap length pushed ∙ length_push counts count ∙ ap (λ n. n + 1) c.loop-body.invariant.as_many;
      counted =
          one_more_counted c.args.bodies.now c.loop-body.body-index c.body-item.result counts c.push.new.self count
          c.loop-body-test.true c.body-item.is c.loop-body.invariant.as_many c.loop-body.invariant.counted
          (c.calls_count-count.ensures.primitives
          ∙ ap (λ (known : List GateCount). stopped (calls_count (primitives_in known) calls)) c.as_slice.ensures
          ∙ ap (λ (z : List BodyCall). stopped (calls_count (primitives_in counts) z)) c.as_slice-in-loop-body.ensures)
          (c.calls_count-count.ensures.operators
          ∙ ap (λ (known : List GateCount). stopped (calls_operators (operators_in known) calls)) c.as_slice.ensures
          ∙ ap (λ (z : List BodyCall). stopped (calls_operators (operators_in counts) z)) c.as_slice-in-loop-body.ensures)
          pushed;
    }
