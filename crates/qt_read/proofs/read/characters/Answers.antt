use Rattle.std.proofs.Common.{◌<◌, ◌≤◌, length, sym, subst, arith}
use Rattle.std.specs.Str.{IsValidUpTo}
use Rattle.qt_read.specs.Reading.{IsRefused, long, no_utf8, most_bytes}
use Rattle.qt_tree.specs.declared.refusal.TextRefusal.TheVariants as refusal
use Rattle.qt_read.proofs.read.characters.Goals as goal

pub returns-then-bytes-gt-MOST_BYTES-clause-reason : goal.returns-then-bytes-gt-MOST_BYTES-clause-reason
returns-then-bytes-gt-MOST_BYTES-clause-reason c = λ file.
    let above : most_bytes < length c.args.bytes.now = omega (arith, c.if-bytes-gt-MOST_BYTES.true) in
    subst (λ n. IsRefused c.args.name.now file c.args.bytes.now (refusal.E2 n)) (sym c.in_ok-new.ensures) (long above)

pub returns-in_ok-new-in-Err-clause-reason : goal.returns-in_ok-new-in-Err-clause-reason
returns-in_ok-new-in-Err-clause-reason c = λ file.
    let within : length c.args.bytes.now ≤ most_bytes = omega (arith, c.if-bytes-gt-MOST_BYTES.false) in
    let valid : IsValidUpTo c.args.bytes.now c.valid_up_to-count.result = subst (IsValidUpTo c.args.bytes.now) (sym c.valid_up_to-count.ensures) c.in-Err.ensures.cases.1 in
    subst (λ n. IsRefused c.args.name.now file c.args.bytes.now (refusal.E1 n c.valid_up_to-count.result)) (sym c.in_ok-new-in-Err.ensures) (no_utf8 c.valid_up_to-count.result within c.in-Err.ensures.cases.0 valid)
