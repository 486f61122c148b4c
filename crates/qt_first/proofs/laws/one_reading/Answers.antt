use Rattle.qt_first.proofs.Programs.{one_text}
use Rattle.qt_first.proofs.laws.one_reading.Goals as goal

pub returns : goal.returns
returns c = λ p r. one_text p r c.args.text.now
