use Rattle.std.proofs.Common.{◌≡◌, length, reverse}
use Rattle.qt_names.specs.Scopes.{found}
use Rattle.qt_names.proofs.scopes.last_found.Given as goal

abbrev pub invariant-loop-scope : goal.invariant-loop-scope
invariant-loop-scope l = found (reverse l.fn.scopes) l.name ≡ found (reverse l.scopes) l.name

abbrev pub decreases-loop-scope : goal.decreases-loop-scope
decreases-loop-scope l = length l.scopes
