use Rattle.qt_gates.proofs.Printed.{fixed_gates, controlled_gates, permutations, rotations}
use Rattle.qt_gates.proofs.Turns.{phases, turns, controlled_turns}
use Rattle.qt_gates.proofs.laws.matrices.Goals as goal

pub returns-clause-fixed : goal.returns-clause-fixed
returns-clause-fixed c = fixed_gates

pub returns-clause-controlled : goal.returns-clause-controlled
returns-clause-controlled c = controlled_gates

pub returns-clause-permutations : goal.returns-clause-permutations
returns-clause-permutations c = permutations

pub returns-clause-phases : goal.returns-clause-phases
returns-clause-phases c = phases

pub returns-clause-rotations : goal.returns-clause-rotations
returns-clause-rotations c = rotations

pub returns-clause-turns : goal.returns-clause-turns
returns-clause-turns c = turns

pub returns-clause-controlled_turns : goal.returns-clause-controlled_turns
returns-clause-controlled_turns c = controlled_turns
