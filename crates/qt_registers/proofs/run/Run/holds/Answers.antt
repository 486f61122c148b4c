use Rattle.std.proofs.Common.{◌≡◌}
use Rattle.qt_registers.specs.Registers.{Holds}
use Rattle.qt_registers.specs.Runs.{run_qubits}
use Rattle.qt_registers.proofs.Meeting.{denied, no_where}
use Rattle.qt_registers.proofs.Overlaps.{held_by_number, number_of_held, origin_of_held}
use Rattle.qt_registers.proofs.run.Run.holds.Goals as goal

pub returns-then-not-is : goal.returns-then-not-is
returns-then-not-is c =
    let run = c.args.self in
    let qubit = c.args.qubit in
    let origin = c.counted-origin.result.0 in
    let number = c.counted-origin.result.1 in
    let not = denied c.is.result (run.origin ≡ origin) c.is.ensures c.if-not-is.true in
    no_where (Holds (run_qubits run) qubit) (λ h. not (origin_of_held run origin number qubit c.counted-origin.ensures.value h))

pub returns : goal.returns
returns c =
    let run = c.args.self in
    let qubit = c.args.qubit in
    let origin = c.counted-origin.result.0 in
    let number = c.counted-origin.result.1 in
    let counted = c.counted-origin.ensures.value in (
      λ t. held_by_number run origin number qubit counted (c.is.ensures.0 c.if-not-is.false) (c.has_number.ensures.0 t),
      λ h. c.has_number.ensures.1 (number_of_held run origin number qubit counted h),
    )
