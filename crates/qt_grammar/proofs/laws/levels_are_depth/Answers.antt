use Rattle.qt_grammar.proofs.Counts as counts
use Rattle.qt_grammar.proofs.laws.levels_are_depth.Goals as goal

pub returns-clause-expression : goal.returns-clause-expression
returns-clause-expression c = counts.levels_of_expression

pub returns-clause-program : goal.returns-clause-program
returns-clause-program c = counts.levels_of_program

pub returns-clause-each_token : goal.returns-clause-each_token
returns-clause-each_token c = counts.each_token_stands
