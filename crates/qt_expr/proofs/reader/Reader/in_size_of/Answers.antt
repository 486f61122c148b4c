use Rattle.std.proofs.Common.{arith}
use Rattle.qt_expr.proofs.Steps.{in_size_of_is}
use Rattle.qt_expr.proofs.reader.Reader.in_size_of.Goals as goal

pub returns : goal.returns
returns g c =
    rw (in_size_of_is c.args.tokens.now c.args.nesting.levels c.args.nesting.outer c.args.at (omega arith), ← c.below.ensures.levels, ← c.below.ensures.outer) c.dimension.ensures
