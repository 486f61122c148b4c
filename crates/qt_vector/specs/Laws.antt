-- Each state has one reduced state: amplitudes are told apart by their values, over whichever power of two they are written
-- (OpenQASM 3.0 live specification, "Quantum measurement and reset"; Cross et al. 2022).
use Rattle.std.specs.Prelude.{◌≡◌}
use Rattle.qt_ring.specs.State.{State}
use Rattle.qt_ring.specs.Multiples.{IsReduced}

abbrev pub SomeReduced : Type 0
SomeReduced = (s : State) → (t : State) × IsReduced s t

abbrev pub OneReduced : Type 0
OneReduced = (s t u : State) → IsReduced s t → IsReduced s u → t ≡ u
