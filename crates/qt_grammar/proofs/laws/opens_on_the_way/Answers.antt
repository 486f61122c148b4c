use Rattle.qt_grammar.proofs.Theorems as theorem
use Rattle.qt_grammar.proofs.laws.opens_on_the_way.Goals as goal

pub returns : goal.returns
returns c = theorem.opens_on_the_way
