-- No number of a report is a float.
use Rattle.std.proofs.Common.{◌≡◌, false, List, [], ◌∷◌, map, refl, ap, ◌||◌, ◌∙◌}
use Rattle.serde_json.specs.View.{items_of}
use Rattle.serde_json.specs.Written.{has_float, items_have_float}
use Rattle.qt_json.specs.declared.report.NamedText.{NamedText}
use Rattle.qt_json.specs.declared.report.Report.{Report}
use Rattle.qt_json.specs.declared.report.ReportLine.{ReportLine}
use Rattle.qt_json.specs.Json.{pair_data, line_data, report_data}

no_pair : (pairs : List NamedText) → items_have_float (items_of (map pair_data pairs)) ≡ false
no_pair [] = refl
no_pair (pair ∷ rest) = no_pair rest

no_line : (lines : List ReportLine) → items_have_float (items_of (map line_data lines)) ≡ false
no_line [] = refl
no_line (line ∷ rest) = ap (λ b. (b || false) || items_have_float (items_of (map line_data rest))) (no_pair line.values) ∙ no_line rest

pub no_float : (report : Report) → has_float (report_data report) ≡ false
unfolding report_data
no_float report = ap (λ b. b || false) (no_line report.lines)
