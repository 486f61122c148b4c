-- The state that a state vector of the code stands for
-- (OpenQASM 3.0 live specification, "Types and Casting", quantum types; Cross et al. 2022).
use Rattle.qt_ring.specs.State.{State}
use Rattle.qt_vector.specs.States.{IsVector}
use Rattle.qt_vector.specs.declared.vector.Vector.TheInside.{Inside}

abbrev pub state_of : Inside → State
state_of v = record { qubits = v.qubits; entries = v.entries.items; halvings = v.halvings }

abbrev pub StandsForVector : Inside → Type 0
StandsForVector v = IsVector (state_of v)
