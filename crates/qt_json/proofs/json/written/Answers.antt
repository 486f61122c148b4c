use Rattle.std.proofs.Common.{◌∙◌, ◌++◌, ◌∷◌, [], ap, List, ℕ, lit<, string_bytes}
use Rattle.serde_json.specs.Written.{compact_text, has_float}
use Rattle.qt_json.proofs.Floats.{no_float}
use Rattle.qt_json.proofs.json.written.Goals as goal

pub returns : goal.returns
returns c =
    let is = c.in_ok-report_value.ensures in
    let text = c.in_ok-text.ensures.text (ap has_float is ∙ no_float c.args.report.now) in
    c.in_ok-push.ensures.bytes ∙ ap (λ (e : List ℕ). string_bytes c.in_ok-text.text ++ e) (c.in_ok-push.ensures.ascii (lit< tt)) ∙ ap (λ (t : List ℕ). t ++ 10 ∷ []) (text ∙ ap compact_text is)
