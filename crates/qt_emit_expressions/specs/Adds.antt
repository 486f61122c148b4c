-- Lists that grow at their end (flat code is this profile's; OpenQASM 3.0 live specification, "Classical instructions").
use Rattle.std.specs.Prelude.{◌≡◌, List, ◌++◌}

-- the new list is the old one, and these behind it
pub record Adds {A : Type 0} (old new more : List A) : Type 0 where
  pub by : new ≡ old ++ more
