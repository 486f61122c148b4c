use Rattle.std.proofs.Common.{◌≡◌, ◌∙◌, sym, count_by, rules}
use Rattle.qt_first.specs.Pieces.{is_measurement}
use Rattle.qt_first.proofs.Lines.{measurements-count_by}
use Rattle.qt_first.proofs.read.measurement_count.Goals as goal

pub returns : goal.returns
returns c =
    let count : c.count.result ≡ count_by is_measurement c.args.statements.now = search rules in
    count ∙ sym (measurements-count_by c.args.statements.now)
