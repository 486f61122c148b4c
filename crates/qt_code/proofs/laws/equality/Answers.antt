use Rattle.qt_instructions.proofs.Same.{parts_decided}
use Rattle.qt_code.proofs.laws.equality.Goals as goal

pub returns : goal.returns
returns c = parts_decided
