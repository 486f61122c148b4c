use Rattle.qt_ring.proofs.Unitary.{u_unitary, phase_unitary}
use Rattle.qt_ring.proofs.laws.unitary.Goals as goal

pub returns-clause-u : goal.returns-clause-u
returns-clause-u c = u_unitary

pub returns-clause-phase : goal.returns-clause-phase
returns-clause-phase c = phase_unitary
