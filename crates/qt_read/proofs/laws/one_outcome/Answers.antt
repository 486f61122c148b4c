use Rattle.qt_read.proofs.Outcomes.{one_outcome as one_outcome_lem}
use Rattle.qt_read.proofs.laws.one_outcome.Goals as goal

pub returns : goal.returns
returns c = one_outcome_lem c.args.name.now c.args.file c.args.text.now
