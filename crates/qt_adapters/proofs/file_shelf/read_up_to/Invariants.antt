use Rattle.std.proofs.Common.{◌≡◌, ℕ, List, ◌++◌, ◌+◌, length}
use Rattle.std.specs.Io.KnownBytes.{Consumes}
use Rattle.qt_adapters.proofs.file_shelf.read_up_to.Given as goal

-- what was appended is what the reader gave, and what is left to read is what is wanted beside
abbrev pub invariant-loop-left : goal.invariant-loop-left
invariant-loop-left g l = record {
  more : List ℕ;
  appended : l.into.items ≡ l.fn.into.items ++ more;
  count : length more + l.left ≡ l.most;
  consumed : Consumes (g.F.Read.remaining l.fn.file) (g.F.Read.remaining l.file) more;
}

abbrev pub decreases-loop-left : goal.decreases-loop-left
decreases-loop-left g l = l.left
