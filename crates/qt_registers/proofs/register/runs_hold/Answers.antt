use Rattle.qt_registers.specs.Registers.{Holds}
use Rattle.qt_registers.specs.Runs.{run_qubits}
use Rattle.qt_registers.proofs.Meeting.{denied, no_where, yes_where}
use Rattle.qt_registers.proofs.Overlaps.{held_behind, held_by_first, held_by_none, held_later}
use Rattle.qt_registers.proofs.register.runs_hold.Goals as goal

pub returns-then-holds : goal.returns-then-holds
returns-then-holds c =
    let here = c.holds.ensures.0 c.if-holds.true in
    let some = c.in-len1-up.len_at_least in
    yes_where _ (c.loop-runs.invariant.0 (held_by_first c.args.qubit c.loop-runs.runs.now c.run-item.result some c.run-item.is here))

pub loop-runs-preserved : goal.loop-runs-preserved
loop-runs-preserved c =
    let qubit = c.args.qubit in
    let runs = c.loop-runs.runs.now in
    let run = c.run-item.result in
    let some = c.in-len1-up.len_at_least in
    let not = denied c.holds.result (Holds (run_qubits run) qubit) c.holds.ensures c.if-holds.false in (
      λ h. c.loop-runs.invariant.0 (held_behind qubit runs run some c.run-item.is h),
      λ h. held_later qubit runs run some c.run-item.is not (c.loop-runs.invariant.1 h),
    )

pub returns : goal.returns
returns c = no_where _ (λ h. held_by_none c.args.qubit c.loop-runs.runs.now c.in_default.len_below (c.loop-runs.invariant.1 h))
