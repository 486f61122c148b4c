use Rattle.std.proofs.Common.{arith}
use Rattle.qt_expr.proofs.Steps.{range_is}
use Rattle.qt_expr.proofs.reader.Reader.range.Goals as goal

pub returns : goal.returns
returns g c =
    rw (range_is c.args.tokens.now c.args.nesting.levels c.args.nesting.outer c.args.at (omega arith), ← c.below.ensures.levels, ← c.below.ensures.outer) c.range_form.ensures
