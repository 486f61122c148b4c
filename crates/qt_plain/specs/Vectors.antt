-- The state that a state vector of the code stands for
-- (OpenQASM 3.0 live specification, "Types and Casting", quantum types; Cross et al. 2022).
use Rattle.qt_ring.specs.State.{State}
use Rattle.qt_plain.specs.Plain.{IsPlain}
use Rattle.qt_plain.specs.declared.vector.StateVector.TheInside.{Inside}

abbrev pub state_of : Inside → State
state_of v = record { qubits = v.qubits; entries = v.entries.items; halvings = v.halvings }

abbrev pub StandsForPlain : Inside → Type 0
StandsForPlain v = IsPlain (state_of v)
