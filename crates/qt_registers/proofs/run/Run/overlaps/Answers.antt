use Rattle.std.proofs.Common.{◌≡◌}
use Rattle.qt_registers.specs.Registers.{Overlap}
use Rattle.qt_registers.specs.Runs.{run_qubits}
use Rattle.qt_registers.proofs.Meeting.{denied, meet_sym, no_where}
use Rattle.qt_registers.proofs.Overlaps.{meet_overlaps, overlap_meets, same_origin}
use Rattle.qt_registers.proofs.run.Run.overlaps.Goals as goal

pub returns-then-not-is : goal.returns-then-not-is
returns-then-not-is c =
    let left = c.args.self in
    let right = c.args.other in
    no_where (Overlap (run_qubits left) (run_qubits right)) (λ h. denied c.is.result (left.origin ≡ right.origin) c.is.ensures c.if-not-is.true (same_origin left right h))

pub returns-then-self-other : goal.returns-then-self-other
returns-then-self-other c =
    let left = c.args.self in
    let right = c.args.other in
    (λ t. meet_overlaps left right (c.is.ensures.0 c.if-not-is.false) (c.meets.ensures.0 t), λ h. c.meets.ensures.1 (overlap_meets left right h))

pub returns-else-self-other : goal.returns-else-self-other
returns-else-self-other c =
    let left = c.args.self in
    let right = c.args.other in (
      λ t. meet_overlaps left right (c.is.ensures.0 c.if-not-is.false) (meet_sym right left (c.meets-else-self-other.ensures.0 t)),
      λ h. c.meets-else-self-other.ensures.1 (meet_sym left right (overlap_meets left right h)),
    )
