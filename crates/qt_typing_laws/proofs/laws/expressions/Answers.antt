use Rattle.qt_typing_laws.proofs.Expressions.{expressions_are_typed}
use Rattle.qt_typing_laws.proofs.laws.expressions.Goals as goal

pub returns : goal.returns
returns c = expressions_are_typed
