use Rattle.qt_grammar.proofs.Theorems as theorem
use Rattle.qt_grammar.proofs.laws.larger_limits_spell_more.Goals as goal

pub returns : goal.returns
returns c = theorem.larger_limits_spell_more
