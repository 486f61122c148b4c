use Rattle.qt_gate_laws.proofs.Circle.{opposites_are_conjugate}
use Rattle.qt_gate_laws.proofs.States.{primitives_multiply}
use Rattle.qt_gate_laws.proofs.Products.{primitives_are_matrix, primitives_have_their_qubits}
use Rattle.qt_gate_laws.proofs.Inverses.{inverses_are_adjoint}
use Rattle.qt_gate_laws.proofs.laws.primitives.Goals as goal

pub returns-clause-matrix : goal.returns-clause-matrix
returns-clause-matrix c = primitives_are_matrix

pub returns-clause-states : goal.returns-clause-states
returns-clause-states c = primitives_multiply

pub returns-clause-qubits : goal.returns-clause-qubits
returns-clause-qubits c = primitives_have_their_qubits

pub returns-clause-opposites : goal.returns-clause-opposites
returns-clause-opposites c = opposites_are_conjugate

pub returns-clause-inverses : goal.returns-clause-inverses
returns-clause-inverses c = inverses_are_adjoint
