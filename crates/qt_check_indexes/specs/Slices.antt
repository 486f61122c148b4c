-- What holds of the places of a range, however it is written.
use Rattle.std.specs.Prelude.{ℕ, ◌+◌, ◌-◌, ◌*◌, ◌<◌, ◌≤◌}
use Rattle.qt_typing.specs.declared.indexes.Slice.{Slice}

-- some places, each a step above the one before it, and all below a number
pub record IsWithin (places : ℕ) (s : Slice) : Type 0 where
  pub moves : 0 < s.step
  pub least : 0 < s.count
  pub first : s.start < places
  pub last : s.start + (s.count - 1) * s.step < places
  pub most : s.count ≤ places
