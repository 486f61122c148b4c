use Rattle.qt_first.proofs.Pieces.{behind_opening}
use Rattle.qt_first.proofs.read.number.Goals as goal

pub returns : goal.returns
returns c = behind_opening c.args.bound c.args.opening.now c.args.text.now c.in_ok-rest.rest.now c.digit.result c.in_ok-rest.ensures c.digit.ensures
