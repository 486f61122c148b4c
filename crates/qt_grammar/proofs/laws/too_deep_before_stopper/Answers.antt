use Rattle.qt_grammar.proofs.Theorems as theorem
use Rattle.qt_grammar.proofs.laws.too_deep_before_stopper.Goals as goal

pub returns : goal.returns
returns c = theorem.too_deep_before_stopper
