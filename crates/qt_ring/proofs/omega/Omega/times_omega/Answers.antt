use Rattle.std.proofs.Common.{◌≡◌, ◌%◌, ap, ◌∙◌, arith}
use Rattle.qt_ring.specs.Ring.{times, root}
use Rattle.qt_ring.proofs.Coefficients.{none_turned, one_more, all_turned}
use Rattle.qt_ring.proofs.omega.Omega.times_omega.Goals as goal

pub loop-step-init : goal.loop-step-init
loop-step-init c = record { value = none_turned c.args.self; size = c.requires }

pub loop-step-preserved : goal.loop-step-preserved
loop-step-preserved c = record { value = one_more _ c.args.self _ _ c.loop-step.invariant.value c.turned-product.ensures.value; size = c.turned-product.ensures.size }

pub returns-clause-value : goal.returns-clause-value
returns-clause-value c =
    let e : c.loop-step._step ≡ c.args.j % 8 = omega arith in
    all_turned c.args.j c.args.self _ (c.loop-step.invariant.value ∙ ap (λ k. times (root k) c.args.self) e)
