use Rattle.std.proofs.Common.{arith}
use Rattle.qt_expr.proofs.Steps.{unary_is}
use Rattle.qt_expr.proofs.reader.Reader.unary.Goals as goal

pub returns : goal.returns
returns g c =
    let h = c.requires.reads c.args.self.now.alloc c.args.tokens c.below.result 10 c.args.at c.operation.result (omega arith) (omega arith) c.operation.ensures in
    rw (unary_is c.args.tokens.now c.args.nesting.levels c.args.nesting.outer c.args.at (omega arith), ← c.below.ensures.levels, ← c.below.ensures.outer) h
