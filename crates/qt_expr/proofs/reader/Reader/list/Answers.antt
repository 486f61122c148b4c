use Rattle.std.proofs.Common.{rules, arith}
use Rattle.std.proofs.lemmas.Grind.{common_steps}
use Rattle.qt_expr.proofs.Steps.{list_below, no_list}
use Rattle.qt_expr.proofs.reader.Reader.list.Goals as goal

pub returns-then-nesting-eq0 : goal.returns-then-nesting-eq0
returns-then-nesting-eq0 g c =
    let e = no_list c.args.tokens.now c.args.nesting.levels c.args.nesting.outer c.args.at (omega arith) in
    first_of (search rules, grind (arith, common_steps))

pub returns : goal.returns
returns g c =
    rw (list_below c.args.tokens.now c.args.nesting.levels c.args.nesting.outer c.args.at (omega arith), ← c.below.ensures.levels, ← c.below.ensures.outer) c.expressions.ensures
