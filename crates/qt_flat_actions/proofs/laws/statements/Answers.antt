use Rattle.qt_flat_actions.proofs.Landing.{actions_land, statements_land}
use Rattle.qt_flat_actions.proofs.Lists.{straight_code_lands}
use Rattle.qt_flat_actions.proofs.laws.statements.Goals as goal

pub returns-clause-actions : goal.returns-clause-actions
returns-clause-actions c = actions_land

pub returns-clause-fuel : goal.returns-clause-fuel
returns-clause-fuel c = statements_land

pub returns-clause-lists : goal.returns-clause-lists
returns-clause-lists c = straight_code_lands
