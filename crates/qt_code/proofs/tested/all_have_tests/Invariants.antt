use Rattle.std.proofs.Common.{◌≡◌, length}
use Rattle.qt_code.specs.Passes.{all_have_tests}
use Rattle.qt_code.proofs.Passing.{tests_pass}
use Rattle.qt_code.proofs.tested.all_have_tests.Given as goal

abbrev pub invariant-code : goal.invariant-code
invariant-code l = tests_pass l.tested l.code ≡ all_have_tests l.fn.code

abbrev pub decreases-code : goal.decreases-code
decreases-code l = length l.code
