use Rattle.qt_grammar.proofs.Theorems as theorem
use Rattle.qt_grammar.proofs.laws.one_parse.Goals as goal

pub returns-clause-some : goal.returns-clause-some
returns-clause-some c = theorem.some_parse

pub returns-clause-one : goal.returns-clause-one
returns-clause-one c = theorem.one_parse
