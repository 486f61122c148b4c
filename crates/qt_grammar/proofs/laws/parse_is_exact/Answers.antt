use Rattle.qt_grammar.proofs.Theorems as theorem
use Rattle.qt_grammar.proofs.laws.parse_is_exact.Goals as goal

pub returns-clause-spelled : goal.returns-clause-spelled
returns-clause-spelled c = theorem.spelled_is_parsed

pub returns-clause-too_deep : goal.returns-clause-too_deep
returns-clause-too_deep c = theorem.too_deep_is_told

pub returns-clause-stopper : goal.returns-clause-stopper
returns-clause-stopper c = theorem.stopper_is_told
