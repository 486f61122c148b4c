-- What a measurement of one qubit leaves for an outcome. The amplitudes of all basis states with the other outcome become 0; an
-- outcome of which nothing is left has the probability 0, and can't come
-- (OpenQASM 3.0 live specification, "Quantum measurement and reset"; Cross et al. 2022).
use Rattle.std.specs.Prelude.{◌≡◌, true, false, Option, None, Some}
use Rattle.qt_ring.specs.State.{State, vanishes}
use Rattle.qt_ring.specs.Multiples.{IsReduced}

-- what is left of a projection: nothing where it vanishes, and else the same state over its least power of two
abbrev pub IsLeft : State → Option State → Type 0
IsLeft projection None = vanishes projection ≡ true
IsLeft projection (Some half) = (vanishes projection ≡ false) × IsReduced projection half
