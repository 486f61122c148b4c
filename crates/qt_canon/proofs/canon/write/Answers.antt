use Rattle.std.proofs.Common.{◌<◌, ◌^◌, length, ap, sym, subst, ◌∙◌, arith}
use Rattle.qt_ring.specs.Ring.{nil, times, Within}
use Rattle.qt_ring.specs.Division.{Divides}
use Rattle.qt_canon_laws.specs.Canonical.{factor_of}
use Rattle.qt_canon.specs.Divisors.{divisor_of}
use Rattle.qt_canon.specs.Plans.{taken_of}
use Rattle.qt_canon.proofs.Entries.{divides_at}
use Rattle.qt_canon.proofs.Results.{IsSmall, writing_on, unwritten, leaves_each}
use Rattle.qt_canon.proofs.canon.write.Goals as goal

pub quotient-requires-clause-size : goal.quotient-requires-clause-size
quotient-requires-clause-size c =
    let i = c.loop-entry.entry-index in
    let l : i < length c.args.entries.now = omega arith in
    subst (Within (2 ^ 54)) (sym (unwritten (taken_of c.args.plan) c.args.entries.now c.loop-entry.entries i _ (omega arith) c.loop-entry.invariant)) (c.requires.within i _ l)

pub quotient-requires-clause-whole : goal.quotient-requires-clause-whole
quotient-requires-clause-whole c =
    let i = c.loop-entry.entry-index in
    let l : i < length c.args.entries.now = omega arith in
    subst (Divides (divisor_of c.args.plan.divisor)) (sym (unwritten (taken_of c.args.plan) c.args.entries.now c.loop-entry.entries i _ (omega arith) c.loop-entry.invariant)) (divides_at (divisor_of c.args.plan.divisor) c.args.entries.now i _ l c.requires.whole)

pub narrowed-requires : goal.narrowed-requires
unfolding nil
narrowed-requires c =
    let i = c.loop-entry.entry-index in
    let l : i < length c.args.entries.now = omega arith in
    leaves_each (taken_of c.args.plan) c.args.entries.now i _ l (c.quotient.ensures ∙ unwritten (taken_of c.args.plan) c.args.entries.now c.loop-entry.entries i _ (omega arith) c.loop-entry.invariant) c.requires.small

pub loop-entry-preserved : goal.loop-entry-preserved
unfolding nil
loop-entry-preserved c =
    let i = c.loop-entry.entry-index in
    let k = taken_of c.args.plan in
    let old = c.args.entries.now in
    let l : i < length old = omega arith in
    let small = leaves_each k old i _ l (c.quotient.ensures ∙ unwritten k old c.loop-entry.entries i _ (omega arith) c.loop-entry.invariant) c.requires.small in
    writing_on k old c.loop-entry.entries i _ c.narrowed.result (omega arith) (ap (times (factor_of k)) c.narrowed.ensures ∙ c.quotient.ensures) (subst IsSmall (sym c.narrowed.ensures) small) c.loop-entry.invariant
