use Rattle.qt_code.proofs.Ways.{conditions_decide}
use Rattle.qt_code.proofs.laws.conditions.Goals as goal

pub returns : goal.returns
returns c = conditions_decide
