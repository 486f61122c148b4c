use Rattle.qt_grammar.proofs.Counts as counts
use Rattle.qt_grammar.proofs.laws.strengths_only_group.Goals as goal

pub returns-clause-factors : goal.returns-clause-factors
returns-clause-factors c = counts.strengths_only_group

pub returns-clause-parts : goal.returns-clause-parts
returns-clause-parts c = counts.parts_stand_in_turn
