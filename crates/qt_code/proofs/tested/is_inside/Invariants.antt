use Rattle.std.proofs.Common.{◌≡◌, length}
use Rattle.qt_code.specs.Passes.{is_inside}
use Rattle.qt_code.proofs.Passing.{inside_pass}
use Rattle.qt_code.proofs.tested.is_inside.Given as goal

abbrev pub invariant-code : goal.invariant-code
invariant-code l = inside_pass l.code ≡ is_inside l.fn.code

abbrev pub decreases-code : goal.decreases-code
decreases-code l = length l.code
