use Rattle.std.proofs.Common.{◌-◌, arith, refl, ◌∙◌, sym}
use Rattle.qt_fixed_angles.proofs.Marking.{all_closed, none_behind, one_closed, one_passed, slice_at}
use Rattle.qt_fixed_angles.proofs.reached.mark_called.Goals as goal

pub subroutines-init : goal.subroutines-init
subroutines-init c = record {
  kept = λ i e. e;
  closed = none_behind c.args.subroutines.now c.args.flags.now;
  len = refl;
  within = omega arith;
}

pub subroutines-preserved-then-flag_at : goal.subroutines-preserved-then-flag_at
subroutines-preserved-then-flag_at c =
    let before = c.subroutines.number - 1 in record {
      kept = λ i e. c.mark_subroutine.ensures.marks.kept i (c.subroutines.invariant.kept i e);
      closed =
          one_closed c.args.subroutines.now before c.subroutines.number c.index-subroutines-number.result c.subroutines.flags
          c.mark_subroutine.new.flags (omega arith)
          (slice_at c.args.subroutines.now before c.index-subroutines-number.result
          (let within = c.subroutines.invariant.within in let some = c.subroutines-test.true in omega (arith, within, some))
          c.index-subroutines-number.is)
          c.subroutines.invariant.closed
          c.mark_subroutine.ensures.marks;
      len = c.mark_subroutine.ensures.len ∙ c.subroutines.invariant.len;
      within = let within = c.subroutines.invariant.within in omega (arith, within);
    }

pub subroutines-preserved : goal.subroutines-preserved
subroutines-preserved c =
    let before = c.subroutines.number - 1 in record {
      kept = c.subroutines.invariant.kept;
      closed =
          one_passed c.args.subroutines.now before c.subroutines.number c.subroutines.flags (omega arith)
          (rw (← c.as_slice.ensures) (sym c.flag_at.ensures ∙ c.if-flag_at.false)) c.subroutines.invariant.closed;
      len = c.subroutines.invariant.len;
      within = let within = c.subroutines.invariant.within in omega (arith, within);
    }

pub returns-clause-closed : goal.returns-clause-closed
returns-clause-closed c =
    all_closed c.args.subroutines.now c.subroutines.flags c.subroutines.number c.subroutines-test.false c.subroutines.invariant.closed
