use Rattle.qt_typing_laws.proofs.Statements.{statements_are_well_formed}
use Rattle.qt_typing_laws.proofs.laws.statements.Goals as goal

pub returns : goal.returns
returns c = statements_are_well_formed
