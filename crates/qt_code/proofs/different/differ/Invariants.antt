use Rattle.std.proofs.Common.{◌≡◌, length}
use Rattle.qt_code.specs.Different.{differ}
use Rattle.qt_code.proofs.different.differ.Given as goal

abbrev pub invariant-references : goal.invariant-references
invariant-references l = differ l.references ≡ differ l.fn.references

abbrev pub decreases-references : goal.decreases-references
decreases-references l = length l.references
