use Rattle.std.proofs.Common.{arith}
use Rattle.qt_expr.proofs.Steps.{expression_is}
use Rattle.qt_expr.proofs.reader.Reader.expression.Goals as goal

pub returns : goal.returns
returns g c =
    let h = c.requires.reads c.args.self.now.alloc c.args.tokens c.begun-begun.result 0 c.args.at c.operation.result (omega arith) (omega arith) c.operation.ensures in
    rw (expression_is c.args.tokens.now c.args.nesting.levels c.args.nesting.outer c.args.at, ← c.begun-begun.ensures.levels, ← c.begun-begun.ensures.outer) h
