-- A count that stops isn't seen in a sum that stops.
use Rattle.std.proofs.Common.{◌≡◌, ℕ, ◌+◌, arith}
use Rattle.qt_gate_calls.specs.Stopped.{stopped}
use Rattle.qt_typing.specs.Checked.{told}

pub both_told : (tokens n : ℕ) → told (tokens + told n) ≡ told (tokens + n)
both_told tokens n = omega arith

pub both_stopped : (tokens n : ℕ) → told (tokens + stopped n) ≡ told (tokens + n)
both_stopped tokens n = omega arith
