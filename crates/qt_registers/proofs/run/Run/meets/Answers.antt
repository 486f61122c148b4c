use Rattle.std.proofs.Common.{ℕ, ◌+◌, ◌*◌, ◌<◌, arith}
use Rattle.qt_registers.specs.Runs.{HasNumber, Meet}
use Rattle.qt_registers.proofs.Meeting.{denied, no_meeting, no_where, none_more}
use Rattle.qt_registers.proofs.run.Run.meets.Goals as goal

pub loop-place-preserved : goal.loop-place-preserved
loop-place-preserved c =
    let left = c.args.self in
    let right = c.args.other in
    let place = c.loop-place.place in
    let not : HasNumber left (right.first + place * right.step) → ⊥ =
    λ h. denied c.has_number.result (HasNumber left c.number.result) c.has_number.ensures c.if-has_number.false (rw c.number.ensures.value h)
    in
    (omega (arith, c.loop-place.invariant.0), none_more left right c.count_below-first.result place c.loop-place.invariant.1 not)

pub returns : goal.returns
returns c =
    let left = c.args.self in
    let right = c.args.other in
    let first = c.count_below-first in
    let ends : (j : ℕ) → j < right.count → j < first.result + left.step → j < c.loop-place.place =
    λ j few near. omega (arith, few, near, c.loop-place-test.false, c.min-end.ensures, c.saturating_add.ensures)
    in
    no_where (Meet left right) (no_meeting left right first.result c.loop-place.place c.loop-place.invariant.1 first.ensures.before first.ensures.behind ends)
