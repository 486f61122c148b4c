use Rattle.qt_registers.specs.Registers.{Overlap}
use Rattle.qt_registers.specs.Runs.{run_qubits}
use Rattle.qt_registers.proofs.Meeting.{denied, no_where, yes_where}
use Rattle.qt_registers.proofs.Overlaps.{overlaps_behind, overlaps_first, overlaps_later, overlaps_none}
use Rattle.qt_registers.proofs.register.run_overlaps.Goals as goal

pub returns-then-overlaps : goal.returns-then-overlaps
returns-then-overlaps c =
    let here = c.overlaps.ensures.0 c.if-overlaps.true in
    yes_where _ (c.loop-others.invariant.0 (overlaps_first (run_qubits c.args.run) c.loop-others.others.now c.other-item.result c.in-len1-up.len_at_least c.other-item.is here))

pub loop-others-preserved : goal.loop-others-preserved
loop-others-preserved c =
    let qubits = run_qubits c.args.run in
    let others = c.loop-others.others.now in
    let other = c.other-item.result in
    let some = c.in-len1-up.len_at_least in
    let not = denied c.overlaps.result (Overlap qubits (run_qubits other)) c.overlaps.ensures c.if-overlaps.false in (
      λ h. c.loop-others.invariant.0 (overlaps_behind qubits others other some c.other-item.is h),
      λ h. overlaps_later qubits others other some c.other-item.is not (c.loop-others.invariant.1 h),
    )

pub returns : goal.returns
returns c = no_where _ (λ h. overlaps_none (run_qubits c.args.run) c.loop-others.others.now c.in_default.len_below (c.loop-others.invariant.1 h))
