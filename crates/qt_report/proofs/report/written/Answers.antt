use Rattle.std.proofs.Common.{◌≡◌, ◌∙◌, to_z, of_z, rules, append_assoc}
use Rattle.std.proofs.lemmas.Result.{IfOk-weaker}
use Rattle.std.specs.Int.{w128}
use Rattle.std.specs.String.{string_bytes}
use Rattle.std.specs.Int.RustNames.{unsigned_abs}
use Rattle.qt_root2.specs.Masses.{real_of_reduced}
use Rattle.qt_report.specs.Report.{fraction, sign}
use Rattle.qt_report.proofs.report.written.Goals as goal

-- what the format writes, at the signed numbers as they were passed
pub returns : goal.returns
returns c =
    let a : to_z w128 (of_z w128 c.args.of.a) ≡ c.args.of.a = search rules in
    let b : to_z w128 (of_z w128 c.args.of.b) ≡ c.args.of.b = search rules in
    let sign_is : c.sign-sign.result.now ≡ sign c.args.of.b = rw b at c.sign-sign.ensures in
    let size_is : c.unsigned_abs-size.result ≡ unsigned_abs c.args.of.b = rw b at c.unsigned_abs-size.ensures.value in
    IfOk-weaker c.format.result _ (λ text. string_bytes text ≡ fraction (real_of_reduced c.args.of))
    (λ text written. written ∙ rw (a, sign_is, size_is) (simp append_assoc)) c.format.ensures.ok
