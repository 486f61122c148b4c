-- Slots are counted up to the last number that is told, so more than so many are as good as so many.
use Rattle.std.proofs.Common.{◌≡◌, ℕ, ◌+◌, min, arith}
use Rattle.qt_typing.specs.Checked.{told, last_number}

pub so_many : (slots n : ℕ) → told (slots + min (n + 1) last_number) ≡ told (slots + (n + 1))
so_many slots n = omega arith
