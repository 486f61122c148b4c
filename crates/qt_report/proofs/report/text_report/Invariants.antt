use Rattle.std.proofs.Common.{◌≡◌, take}
use Rattle.std.specs.List.{flat_map}
use Rattle.std.specs.String.{string_bytes}
use Rattle.qt_report.specs.Report.{chance_line}
use Rattle.qt_report.proofs.report.text_report.Given as goal

-- the lines of the chances so far
abbrev pub invariant-loop-chance : goal.invariant-loop-chance
invariant-loop-chance l = string_bytes l.text ≡ flat_map (chance_line l.layout) (take l.chance-index l.chance-items)
