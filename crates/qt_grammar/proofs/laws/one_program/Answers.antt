use Rattle.qt_grammar.proofs.Theorems as theorem
use Rattle.qt_grammar.proofs.laws.one_program.Goals as goal

pub returns : goal.returns
returns c = theorem.one_program
