use Rattle.std.proofs.Common.{◌≡◌, ◌++◌}
use Rattle.std.specs.List.{join_with_byte}
use Rattle.std.specs.Slice.Iter.{iter_rest}
use Rattle.std.specs.String.{string_bytes}
use Rattle.qt_report.specs.Report.{values_texts}
use Rattle.qt_report.proofs.Joining.{rest_joined}
use Rattle.qt_report.proofs.report.push_values.Given as goal

-- what is written and the values still to come are the whole
abbrev pub invariant-loop-place : goal.invariant-loop-place
invariant-loop-place l =
    let pairs = l.place-iterator.iter in
    string_bytes l.text ++ rest_joined l.place-iterator.count (values_texts (iter_rest pairs.a) (iter_rest pairs.b))
    ≡ string_bytes l.initial.text ++ join_with_byte 32 (values_texts l.layout l.values)
