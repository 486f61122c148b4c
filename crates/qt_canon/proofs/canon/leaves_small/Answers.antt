use Rattle.std.proofs.Common.{refl, arith}
use Rattle.qt_ring.specs.Ring.{nil}
use Rattle.qt_canon_laws.proofs.Order.{not_both}
use Rattle.qt_canon.specs.Divisors.{divisor_of}
use Rattle.qt_canon.specs.Plans.{taken_of}
use Rattle.qt_canon.proofs.Entries.{divides_at}
use Rattle.qt_canon.proofs.Results.{leaves_none, leaves_more, leaves_all, leaves_each}
use Rattle.qt_canon.proofs.canon.leaves_small.Goals as goal

pub loop-entry-init : goal.loop-entry-init
loop-entry-init c = leaves_none (taken_of c.args.plan)

pub quotient-requires-clause-whole : goal.quotient-requires-clause-whole
quotient-requires-clause-whole c = divides_at (divisor_of c.args.plan.divisor) c.args.entries.now c.loop-entry.entry-index _ c.loop-entry-test.true c.requires.whole

pub returns-then-not-is_small : goal.returns-then-not-is_small
unfolding nil
returns-then-not-is_small c = (
  (λ t. absurd (cc)),
  (λ h. absurd (not_both c.is_small.result c.if-not-is_small.true (c.is_small.ensures.1 (leaves_each (taken_of c.args.plan) c.args.entries.now c.loop-entry.entry-index _ c.loop-entry-test.true c.quotient.ensures h)))),
)

pub loop-entry-preserved : goal.loop-entry-preserved
loop-entry-preserved c = leaves_more (taken_of c.args.plan) c.args.entries.now c.loop-entry.entry-index _ _ c.loop-entry-test.true c.quotient.ensures (c.is_small.ensures.0 c.if-not-is_small.false) c.loop-entry.invariant

pub returns : goal.returns
returns c = ((λ t. leaves_all (taken_of c.args.plan) c.args.entries.now c.loop-entry.entry-index (omega arith) c.loop-entry.invariant), (λ h. refl))
