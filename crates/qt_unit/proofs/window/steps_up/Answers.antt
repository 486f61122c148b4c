use Rattle.std.proofs.Common.{arith}
use Rattle.std.proofs.lemmas.Int.{ints}
use Rattle.qt_unit.proofs.Rises.{rising_sizes}
use Rattle.qt_unit.proofs.Words.{opposite_fits, rising_whole_fits, rising_root_fits, rises_first, rises, risen}
use Rattle.qt_unit.proofs.window.steps_up.Goals as goal

pub overflow_sub-root : goal.overflow_sub-root
overflow_sub-root c = opposite_fits c.root_part-root.result c.root_part-root.ensures.size

pub loop-whole-init : goal.loop-whole-init
loop-whole-init c = rises_first c.args.x c.whole_part-whole.result c.root_part-root.result c.whole_part-whole.ensures.value c.whole_part-whole.ensures.size c.root_part-root.ensures.value c.root_part-root.ensures.size c.requires.not_above

pub overflow_mul-root : goal.overflow_mul-root
overflow_mul-root c = let p = rising_sizes _ _ _ _ c.loop-whole.invariant in omega (arith, ints)

pub overflow_mul-next : goal.overflow_mul-next
overflow_mul-next c = let p = rising_sizes _ _ _ _ c.loop-whole.invariant in omega (arith, ints)

pub overflow_mul-next-in-loop-whole : goal.overflow_mul-next-in-loop-whole
overflow_mul-next-in-loop-whole c = let p = rising_sizes _ _ _ _ c.loop-whole.invariant in omega (arith, ints)

pub overflow_sub-next : goal.overflow_sub-next
overflow_sub-next c = rising_whole_fits _ _ _ _ c.loop-whole.invariant

pub overflow_mul-root-in-loop-whole : goal.overflow_mul-root-in-loop-whole
overflow_mul-root-in-loop-whole c = let p = rising_sizes _ _ _ _ c.loop-whole.invariant in omega (arith, ints)

pub overflow_mul-root-in-loop-whole-2 : goal.overflow_mul-root-in-loop-whole-2
overflow_mul-root-in-loop-whole-2 c = let p = rising_sizes _ _ _ _ c.loop-whole.invariant in omega (arith, ints)

pub overflow_sub-root-in-loop-whole : goal.overflow_sub-root-in-loop-whole
overflow_sub-root-in-loop-whole c = rising_root_fits _ _ _ _ c.loop-whole.invariant

pub overflow_add-steps : goal.overflow_add-steps
overflow_add-steps c = let p = c.loop-whole.invariant.few in omega arith

pub loop-whole-smaller : goal.loop-whole-smaller
loop-whole-smaller c = let p = c.loop-whole.invariant.few in omega arith

pub loop-whole-preserved : goal.loop-whole-preserved
loop-whole-preserved c = rises _ _ _ _ c.requires.some c.loop-whole.invariant c.loop-whole-test.true

pub returns-clause-window : goal.returns-clause-window
returns-clause-window c = risen _ _ _ _ c.loop-whole.invariant c.loop-whole-test.false

pub returns-clause-few : goal.returns-clause-few
returns-clause-few c = c.loop-whole.invariant.few
