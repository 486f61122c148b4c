use Rattle.qt_lex.proofs.Readings.{one_reading as one_reading_lem}
use Rattle.qt_lex.proofs.laws.one_reading.Goals as goal

pub returns : goal.returns
returns c = one_reading_lem c.args.text.now c.args.file
