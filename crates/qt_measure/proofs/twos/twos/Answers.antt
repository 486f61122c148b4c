use Rattle.std.proofs.Common.{sym, subst, ◌∙◌, inr}
use Rattle.qt_ring.specs.Division.{Divides}
use Rattle.qt_ring.specs.Ring.{two_to}
use Rattle.qt_ring.proofs.RingLaws.{one-times, is_nil_true}
use Rattle.qt_measure.proofs.Doubling.{divides-nil, no_more, half_within, halving_on}
use Rattle.qt_measure.proofs.twos.twos.Goals as goal

pub returns-then-is_zero-clause-whole : goal.returns-then-is_zero-clause-whole
returns-then-is_zero-clause-whole c = subst (Divides (two_to c.args.most)) (sym (is_nil_true c.args.amplitude (sym c.is_zero.ensures ∙ c.if-is_zero.true))) (divides-nil (two_to c.args.most))

pub loop-by-init : goal.loop-by-init
loop-by-init c = record { value = one-times c.args.amplitude; small = c.requires }

pub returns-in-None-clause-greatest : goal.returns-in-None-clause-greatest
returns-in-None-clause-greatest c = inr (no_more c.loop-by.by c.args.amplitude c.loop-by.rest c.loop-by.invariant.value c.in-None.ensures)

pub loop-by-preserved : goal.loop-by-preserved
loop-by-preserved c = record {
  value = halving_on c.loop-by.by c.args.amplitude c.loop-by.rest c.in-Some.half c.loop-by.invariant.value c.in-Some.ensures;
  small = half_within _ c.loop-by.rest c.in-Some.half c.in-Some.ensures c.loop-by.invariant.small;
}
