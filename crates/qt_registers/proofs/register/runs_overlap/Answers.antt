use Rattle.qt_registers.specs.Registers.{Overlap}
use Rattle.qt_registers.specs.Runs.{qubits_of, run_qubits}
use Rattle.qt_registers.proofs.Meeting.{denied, no_where, yes_where}
use Rattle.qt_registers.proofs.Overlaps.{behind_overlaps, first_overlaps, later_overlaps, none_overlaps}
use Rattle.qt_registers.proofs.register.runs_overlap.Goals as goal

pub returns-then-run_overlaps : goal.returns-then-run_overlaps
returns-then-run_overlaps c =
    let here = c.run_overlaps.ensures.0 c.if-run_overlaps.true in
    yes_where _ (c.loop-runs.invariant.0 (first_overlaps (qubits_of c.args.others.now) c.loop-runs.runs.now c.run-item.result c.in-len1-up.len_at_least c.run-item.is here))

pub loop-runs-preserved : goal.loop-runs-preserved
loop-runs-preserved c =
    let others = qubits_of c.args.others.now in
    let runs = c.loop-runs.runs.now in
    let run = c.run-item.result in
    let some = c.in-len1-up.len_at_least in
    let not = denied c.run_overlaps.result (Overlap (run_qubits run) others) c.run_overlaps.ensures c.if-run_overlaps.false in (
      λ h. c.loop-runs.invariant.0 (behind_overlaps others runs run some c.run-item.is h),
      λ h. later_overlaps others runs run some c.run-item.is not (c.loop-runs.invariant.1 h),
    )

pub returns : goal.returns
returns c = no_where _ (λ h. none_overlaps (qubits_of c.args.others.now) c.loop-runs.runs.now c.in_default.len_below (c.loop-runs.invariant.1 h))
