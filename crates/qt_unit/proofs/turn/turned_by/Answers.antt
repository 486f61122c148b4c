use Rattle.std.proofs.Common.{◌≡◌, ◌%◌, ap, ◌∙◌, arith}
use Rattle.qt_ring.specs.Wide.{number_of}
use Rattle.qt_ring.specs.Ring.{times, root}
use Rattle.qt_ring.proofs.Coefficients.{none_turned, one_more, all_turned}
use Rattle.qt_unit.proofs.turn.turned_by.Goals as goal

pub loop-step-init : goal.loop-step-init
loop-step-init c = record { value = none_turned (number_of c.args.x); size = c.requires }

pub loop-step-preserved : goal.loop-step-preserved
loop-step-preserved c = record { value = one_more _ (number_of c.args.x) _ _ c.loop-step.invariant.value c.turned-product.ensures.value; size = c.turned-product.ensures.size }

pub returns-clause-value : goal.returns-clause-value
returns-clause-value c =
    let e : c.loop-step._step ≡ c.args.turns % 8 = omega arith in
    all_turned c.args.turns (number_of c.args.x) _ (c.loop-step.invariant.value ∙ ap (λ k. times (root k) (number_of c.args.x)) e)
