use Rattle.std.proofs.Common.{◌≡◌, ap, ◌∙◌, arith}
use Rattle.std.proofs.lemmas.Int.{ints}
use Rattle.qt_ring.specs.Ring.{epsilon_inverse}
use Rattle.qt_canon_laws.specs.Powers.{power}
use Rattle.qt_unit.proofs.EpsilonParts.{down_begins, down_sizes, down_on, next_down, next_down_fits, difference_down}
use Rattle.qt_unit.proofs.epsilon.parts_down.Goals as goal

pub loop-step-init : goal.loop-step-init
loop-step-init c = down_begins

pub overflow_mul-next : goal.overflow_mul-next
overflow_mul-next c = let h = down_sizes _ _ _ c.loop-step.invariant in let b = h.1 in omega (arith, ints)

pub overflow_sub-next : goal.overflow_sub-next
overflow_sub-next c = next_down_fits _ _ _ c.loop-step.invariant

pub overflow_sub-b : goal.overflow_sub-b
overflow_sub-b c = let h = down_sizes _ _ _ c.loop-step.invariant in let a = h.0 in let b = h.1 in omega (arith, ints)

pub loop-step-preserved : goal.loop-step-preserved
loop-step-preserved c = down_on _ _ _ _ _ (omega arith) (next_down _ _ _ c.loop-step.invariant) (difference_down _ _ _ c.loop-step.invariant) c.loop-step.invariant

pub returns-clause-value : goal.returns-clause-value
returns-clause-value c = let e : c.loop-step._step ≡ c.args.steps = omega arith in c.loop-step.invariant.value ∙ ap (power epsilon_inverse) e

pub returns-clause-a_size : goal.returns-clause-a_size
returns-clause-a_size c = let h = down_sizes _ _ _ c.loop-step.invariant in let a = h.0 in omega arith

pub returns-clause-b_size : goal.returns-clause-b_size
returns-clause-b_size c = let h = down_sizes _ _ _ c.loop-step.invariant in let b = h.1 in omega arith
