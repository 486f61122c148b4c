use Rattle.qt_first.proofs.Programs.{text_length}
use Rattle.qt_first.proofs.laws.short.Goals as goal

pub returns : goal.returns
returns c = λ p. text_length p c.args.text.now
