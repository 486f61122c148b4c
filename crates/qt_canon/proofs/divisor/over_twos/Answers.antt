use Rattle.qt_canon.proofs.Wholes.{shifted_quotient}
use Rattle.qt_canon.proofs.divisor.over_twos.Goals as goal

pub returns-clause-value : goal.returns-clause-value
returns-clause-value c = shifted_quotient c.args.twos c.args.x c.requires.size c.requires.whole
