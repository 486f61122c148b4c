-- The lines of a report, in the sense of POSIX.1-2017 (Base Definitions, 3.206): each ends in a line feed and has no other.
-- So whoever cuts a report behind each line feed has its lines.
use Rattle.std.specs.Prelude.{◌≡◌, ◌≢◌, ℕ, List, [], ◌∷◌, ◌++◌, map, All}
use Rattle.qt_report.specs.Outcomes.{Outcomes}
use Rattle.qt_report.specs.Report.{chance_line, total_line}

-- no byte is a line feed
abbrev pub IsUnbroken : List ℕ → Type 0
IsUnbroken text = All (λ byte. byte ≢ 10) text

-- the last byte is a line feed, and no other is
abbrev pub IsLine : List ℕ → Type 0
IsLine line = (text : List ℕ) × (line ≡ text ++ 10 ∷ []) × IsUnbroken text

abbrev pub report_lines : Outcomes → List (List ℕ)
report_lines d = map (chance_line d.layout) d.chances ++ total_line d.chances ∷ []
