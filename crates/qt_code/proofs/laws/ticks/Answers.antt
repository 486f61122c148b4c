use Rattle.qt_code.proofs.Ways.{ticks_spend}
use Rattle.qt_code.proofs.laws.ticks.Goals as goal

pub returns : goal.returns
returns c = ticks_spend
