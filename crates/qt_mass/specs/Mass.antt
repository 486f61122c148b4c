-- |v|² of a state as an exact real number: the probability that a leaf of the tree of outcomes carries
-- (OpenQASM 3.0 live specification, "Quantum measurement and reset"; Cross et al. 2022).
use Rattle.std.specs.Prelude.{◌+◌}
use Rattle.qt_root2.specs.Real.{Real, least}
use Rattle.qt_ring.specs.State.{State, total_a, total_b}

-- the sum of |entry|² over 4^halvings
unfoldable pub mass : State → Real
mass s = least (s.halvings + s.halvings) (total_a s.entries) (total_b s.entries)
