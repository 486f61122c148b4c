use Rattle.std.proofs.Common.{arith}
use Rattle.qt_expr.proofs.Steps.{index_is}
use Rattle.qt_expr.proofs.reader.Reader.index.Goals as goal

pub returns : goal.returns
returns g c =
    rw (index_is c.args.tokens.now c.args.nesting.levels c.args.nesting.outer c.args.at (omega arith), ← c.below.ensures.levels, ← c.below.ensures.outer) c.index_form.ensures
