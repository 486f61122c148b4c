-- The report as JSON (RFC 8259): an object without blanks, whose keys stand in alphabetical order, and a line feed. A probability is
-- `(a+b√2)/2^k`; a and b are decimal texts, since readers of JSON need not keep whole numbers above 2^53.
use Rattle.std.specs.Prelude.{ℕ, List, [], ◌∷◌, ◌++◌, codes, map}
use Rattle.std.specs.Fmt.{signed_decimal}
use Rattle.serde_json.specs.Data.{Data, string, number, unsigned, object, member, no_members, array, item, no_items}
use Rattle.serde_json.specs.View.{items_of}
use Rattle.serde_json.specs.Written.{compact_text}
use Rattle.qt_root2.specs.declared.mass.Reduced.{Reduced}
use Rattle.qt_json.specs.declared.report.NamedText.{NamedText}
use Rattle.qt_json.specs.declared.report.Report.{Report}
use Rattle.qt_json.specs.declared.report.ReportLine.{ReportLine}

-- ["name","text"]
abbrev pub pair_data : NamedText → Data
pair_data pair = array (item (string pair.name) (item (string pair.text) no_items))

-- {"a":"1","b":"0","k":1,"values":[..]}
abbrev pub line_data : ReportLine → Data
line_data line = object
    (member (codes "a") (string (signed_decimal line.of.a))
    (member (codes "b") (string (signed_decimal line.of.b))
    (member (codes "k") (number (unsigned line.of.k))
    (member (codes "values") (array (items_of (map pair_data line.values))) no_members))))

-- {"a":"1","b":"0","k":0}
abbrev pub total_data : Reduced → Data
total_data total = object
    (member (codes "a") (string (signed_decimal total.a))
    (member (codes "b") (string (signed_decimal total.b))
    (member (codes "k") (number (unsigned total.k)) no_members)))

-- {"outcomes":[..],"states":5,"total":{..}}
unfoldable pub report_data : Report → Data
report_data report = object
    (member (codes "outcomes") (array (items_of (map line_data report.lines)))
    (member (codes "states") (number (unsigned report.states))
    (member (codes "total") (total_data report.total) no_members)))

abbrev pub json_text : Report → List ℕ
json_text report = compact_text (report_data report) ++ 10 ∷ []
