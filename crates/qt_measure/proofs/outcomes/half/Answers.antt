use Rattle.std.proofs.Common.{sym, ◌∙◌}
use Rattle.qt_measure.proofs.Projected.{half_made}
use Rattle.qt_measure.proofs.outcomes.half.Goals as goal

pub invariant_of-result : goal.invariant_of-result
invariant_of-result c =
    let g = c.common_twos-by.ensures in
    let k = c.in_ok-kept_halved.ensures in
    (half_made c.args.qubit c.args.outcome c.args.state.now c.common_twos-by.result c.in_ok-kept_halved.field-0.items c.qubits.result c.k.result c.qubits.ensures.value c.k.ensures.value c.k.ensures.vector k.small k.value
    (record { few = g.few; greatest = g.greatest })).0

pub returns : goal.returns
returns c =
    let g = c.common_twos-by.ensures in
    let k = c.in_ok-kept_halved.ensures in (
      sym c.leaves_nothing.ensures ∙ c.if-leaves_nothing.false,
      (half_made c.args.qubit c.args.outcome c.args.state.now c.common_twos-by.result c.in_ok-kept_halved.field-0.items c.qubits.result c.k.result c.qubits.ensures.value c.k.ensures.value c.k.ensures.vector k.small k.value
          (record { few = g.few; greatest = g.greatest })).1,
    )
