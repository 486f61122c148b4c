use Rattle.std.proofs.Common.{◌≡◌, ap, ◌∙◌, arith}
use Rattle.std.proofs.lemmas.Int.{ints}
use Rattle.qt_ring.specs.Ring.{epsilon}
use Rattle.qt_canon_laws.specs.Powers.{power}
use Rattle.qt_unit.proofs.EpsilonParts.{up_begins, up_sizes, up_on, next_up, next_up_fits, sum_up}
use Rattle.qt_unit.proofs.epsilon.parts_up.Goals as goal

pub loop-step-init : goal.loop-step-init
loop-step-init c = up_begins

pub overflow_mul-next : goal.overflow_mul-next
overflow_mul-next c = let h = up_sizes _ _ _ c.loop-step.invariant in let b = h.1 in omega (arith, ints)

pub overflow_add-next : goal.overflow_add-next
overflow_add-next c = next_up_fits _ _ _ c.loop-step.invariant

pub overflow_add-b : goal.overflow_add-b
overflow_add-b c = let h = up_sizes _ _ _ c.loop-step.invariant in let a = h.0 in let b = h.1 in omega (arith, ints)

pub loop-step-preserved : goal.loop-step-preserved
loop-step-preserved c = up_on _ _ _ _ _ (omega arith) (next_up _ _ _ c.loop-step.invariant) (sum_up _ _ _ c.loop-step.invariant) c.loop-step.invariant

pub returns-clause-value : goal.returns-clause-value
returns-clause-value c = let e : c.loop-step._step ≡ c.args.steps = omega arith in c.loop-step.invariant.value ∙ ap (power epsilon) e

pub returns-clause-a_size : goal.returns-clause-a_size
returns-clause-a_size c = let h = up_sizes _ _ _ c.loop-step.invariant in let a = h.0 in omega arith

pub returns-clause-b_size : goal.returns-clause-b_size
returns-clause-b_size c = let h = up_sizes _ _ _ c.loop-step.invariant in let b = h.1 in omega arith
