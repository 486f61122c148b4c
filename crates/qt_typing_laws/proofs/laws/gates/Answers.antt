use Rattle.qt_typing_laws.proofs.GateItems.{gate_bodies_are_well_formed}
use Rattle.qt_typing_laws.proofs.ProgramGates.{program_gates_are_well_formed}
use Rattle.qt_typing_laws.proofs.laws.gates.Goals as goal

pub returns-clause-bodies : goal.returns-clause-bodies
returns-clause-bodies c = gate_bodies_are_well_formed

pub returns-clause-programs : goal.returns-clause-programs
returns-clause-programs c = program_gates_are_well_formed
