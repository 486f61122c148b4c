use Rattle.std.proofs.Common.{◌∙◌, sym}
use Rattle.qt_fixed_angles.proofs.Programs.{all_known, one_longer, one_more_known}
use Rattle.qt_fixed_angles.proofs.program.angles_of.Goals as goal

pub loop-number-preserved : goal.loop-number-preserved
loop-number-preserved c = record {
  known = λ body covers.
      one_more_known c.args.flags.now c.args.subroutines.now body c.loop-number.number c.index-subroutines-number.result c.loop-number.known
      c.push.new.self c.in_ok-angle.angle c.loop-number-test.true c.index-subroutines-number.is covers c.loop-number.invariant.len
      (c.loop-number.invariant.known body covers)
      (λ set. rw (← c.as_slice.ensures) (c.in_ok-angle.ensures (c.flag_at.ensures ∙ set)))
      c.in_ok-push.ensures.ok;
  len = one_longer c.loop-number.known c.push.new.self c.in_ok-angle.angle c.loop-number.number c.in_ok-push.ensures.ok
      c.loop-number.invariant.len;
}

pub returns-clause-angles : goal.returns-clause-angles
returns-clause-angles c = λ body covers.
    all_known c.args.flags.now c.args.subroutines.now c.loop-number.known c.loop-number.number c.loop-number-test.false
    (c.loop-number.invariant.known body covers)
