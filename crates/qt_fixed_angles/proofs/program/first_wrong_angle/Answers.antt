use Rattle.std.proofs.Common.{◌≡◌, length, subst}
use Rattle.std.specs.Prelude.{IfOk}
use Rattle.qt_fixed_angles.specs.Reached.{AreKnown, Covers}
use Rattle.qt_fixed_angles.proofs.Programs.{by_known}
use Rattle.qt_fixed_angles.proofs.program.first_wrong_angle.Goals as goal

pub returns : goal.returns
returns c =
    let subroutines = c.args.program.now.subroutines in
    let body = c.args.program.now.body in
    let flags = c.in_ok-flags.flags in
    let known = c.in_ok-angles.angles in
    let covers : Covers subroutines body flags = rw (← c.as_slice-subroutines.ensures, ← c.as_slice-body.ensures) c.in_ok-flags.ensures in
    let are : AreKnown flags subroutines known =
    rw (← c.as_slice.ensures, ← c.as_slice-subroutines.ensures)
    (c.in_ok-angles.ensures.angles body (rw (← c.as_slice-body.ensures, c.as_slice.ensures) c.in_ok-flags.ensures)) in
    let len : length known ≡ length subroutines = rw (← c.as_slice-subroutines.ensures) c.in_ok-angles.ensures.len in
    subst (λ v. IfOk c.list_angle.result (λ a. a ≡ v)) (by_known flags subroutines known body covers len are)
    (rw (← c.as_slice-known.ensures, ← c.as_slice-body.ensures) c.list_angle.ensures)
