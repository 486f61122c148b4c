-- What is taken out of all amplitudes of a state, as it is planned before any of them is changed
-- (OpenQASM 3.0 live specification, "Quantum measurement and reset"; Cross et al. 2022: a state matters only up to a factor).
use Rattle.std.specs.Prelude.{◌≡◌, ◌-◌, ◌%◌, List, All, pos, ◌-ℤ◌}
use Rattle.std.specs.Int.RustNames.{unsigned_abs}
use Rattle.qt_ring.specs.declared.omega.Omega.{Omega}
use Rattle.qt_ring.specs.declared.TheConstants.{LARGEST}
use Rattle.qt_ring.specs.Ring.{Within}
use Rattle.qt_ring.specs.Multiples.{scaled}
use Rattle.qt_canon_laws.specs.Canonical.{Taken, factor_of}
use Rattle.qt_canon.specs.declared.plan.Plan.{Plan}

-- the divisor is taken out, and the inverses of the powers of ε and ω by which the quotients are multiplied
abbrev pub taken_of : Plan → Taken
taken_of k = record {
  twos = k.divisor.twos;
  has_root_two = k.divisor.has_root_two;
  has_one_minus_omega = k.divisor.has_one_minus_omega;
  units = pos 0 -ℤ k.unit.exponent;
  turns = (8 - k.turn) % 8;
}

-- what is left of the list by the plan has no coefficient above LARGEST
abbrev pub LeavesSmall : Plan → List Omega → Type 0
LeavesSmall k v = (u : List Omega) × ((scaled (factor_of (taken_of k)) u ≡ v) × All (Within (unsigned_abs LARGEST)) u)
