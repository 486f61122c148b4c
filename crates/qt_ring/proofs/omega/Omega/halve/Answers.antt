use Rattle.qt_ring.specs.Ring.{plus}
use Rattle.qt_ring.proofs.RingLaws.{same}
use Rattle.qt_ring.proofs.Coefficients.{double_is, no_half, half_c0, half_c1, half_c2, half_c3}
use Rattle.qt_ring.proofs.omega.Omega.halve.Goals as goal

pub returns-in_err-half : goal.returns-in_err-half
returns-in_err-half c = no_half c.from_residual.result c.args.self c.from_residual.ensures (λ h e. c.in_err-half.ensures h.c0 (half_c0 c.args.self h c.requires.c0_in e))

pub returns-in_err-half-2 : goal.returns-in_err-half-2
returns-in_err-half-2 c = no_half c.from_residual-in_err-half-2.result c.args.self c.from_residual-in_err-half-2.ensures (λ h e. c.in_err-half-2.ensures h.c1 (half_c1 c.args.self h c.requires.c1_in e))

pub returns-in_err-half-3 : goal.returns-in_err-half-3
returns-in_err-half-3 c = no_half c.from_residual-in_err-half-3.result c.args.self c.from_residual-in_err-half-3.ensures (λ h e. c.in_err-half-3.ensures h.c2 (half_c2 c.args.self h c.requires.c2_in e))

pub returns-in_err-half-4 : goal.returns-in_err-half-4
returns-in_err-half-4 c = no_half c.from_residual-in_err-half-4.result c.args.self c.from_residual-in_err-half-4.ensures (λ h e. c.in_err-half-4.ensures h.c3 (half_c3 c.args.self h c.requires.c3_in e))

pub returns : goal.returns
unfolding plus
returns c = same _ _
    (double_is c.args.self.c0 c.in_ok-half.field-0 c.requires.c0_in (c.in_ok-half.ensures))
    (double_is c.args.self.c1 c.in_ok-half-2.field-0 c.requires.c1_in (c.in_ok-half-2.ensures))
    (double_is c.args.self.c2 c.in_ok-half-3.field-0 c.requires.c2_in (c.in_ok-half-3.ensures))
    (double_is c.args.self.c3 c.in_ok-half-4.field-0 c.requires.c3_in (c.in_ok-half-4.ensures))
