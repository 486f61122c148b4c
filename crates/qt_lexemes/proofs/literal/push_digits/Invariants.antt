use Rattle.std.proofs.Common.{◌≡◌, ◌++◌}
use Rattle.std.specs.String.{string_bytes}
use Rattle.qt_lexemes.specs.Literals.{binary_digits}
use Rattle.qt_lexemes.proofs.literal.push_digits.Given as goal

-- what is written and the digits of the places still to come are the whole
abbrev pub invariant-loop-place : goal.invariant-loop-place
invariant-loop-place l =
    string_bytes l.text ++ binary_digits l.place l.value ≡ string_bytes l.initial.text ++ binary_digits l.length l.value
