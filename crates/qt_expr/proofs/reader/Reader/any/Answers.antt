use Rattle.std.proofs.Common.{arith}
use Rattle.qt_expr.proofs.Steps.{any_is}
use Rattle.qt_expr.proofs.reader.Reader.any.Goals as goal

pub returns : goal.returns
returns g c =
    let h = c.expression.ensures in
    rw (any_is c.args.tokens.now c.args.nesting.levels c.args.nesting.outer c.args.at (omega arith), ← c.below.ensures.levels, ← c.below.ensures.outer) h
