use Rattle.std.proofs.Common.{arith}
use Rattle.qt_kernel.proofs.Halves.{halving_begins, halving_even, halving_on, halving_ends}
use Rattle.qt_kernel.proofs.halving.halved.Goals as goal

pub loop-step-init : goal.loop-step-init
loop-step-init c = halving_begins c.args.by c.args.x c.requires.size c.requires.whole

pub half-rest-requires-clause-even : goal.half-rest-requires-clause-even
half-rest-requires-clause-even c = halving_even _ _ _ _ c.loop-step-test.true c.loop-step.invariant

pub loop-step-preserved : goal.loop-step-preserved
loop-step-preserved c = halving_on _ _ _ _ _ c.loop-step-test.true c.half-rest.ensures.value c.half-rest.ensures.size c.loop-step.invariant

pub returns-clause-value : goal.returns-clause-value
returns-clause-value c = halving_ends _ _ _ _ (omega arith) c.loop-step.invariant
