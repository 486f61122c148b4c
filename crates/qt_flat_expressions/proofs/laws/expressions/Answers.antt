use Rattle.qt_flat_expressions.proofs.Landing.{expressions_land}
use Rattle.qt_flat_expressions.proofs.laws.expressions.Goals as goal

pub returns : goal.returns
returns c = expressions_land
