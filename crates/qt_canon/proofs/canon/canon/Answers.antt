use Rattle.qt_canon_laws.proofs.Order.{not_both}
use Rattle.qt_canon.specs.Plans.{taken_of}
use Rattle.qt_canon.proofs.Results.{small_within, form_written, form_too_large}
use Rattle.qt_canon.proofs.canon.canon.Goals as goal

pub returns-then-not-leaves_small-clause-fault : goal.returns-then-not-leaves_small-clause-fault
returns-then-not-leaves_small-clause-fault c = form_too_large c.args.entries.now (taken_of c.new-plan.result) (λ h. not_both c.leaves_small.result c.if-not-leaves_small.true (c.leaves_small.ensures.1 h)) c.new-plan.ensures.canonical

pub returns-clause-ok : goal.returns-clause-ok
returns-clause-ok c = (taken_of c.new-plan.result, (form_written c.args.entries.now c.write.new.entries (taken_of c.new-plan.result) c.write.ensures.value c.new-plan.ensures.canonical, c.scale.ensures.value))

pub new-plan-requires-clause-within : goal.new-plan-requires-clause-within
new-plan-requires-clause-within c = small_within c.args.entries.now c.requires.small

pub leaves_small-requires-clause-within : goal.leaves_small-requires-clause-within
leaves_small-requires-clause-within c = small_within c.args.entries.now c.requires.small

pub write-requires-clause-within : goal.write-requires-clause-within
write-requires-clause-within c = small_within c.args.entries.now c.requires.small
