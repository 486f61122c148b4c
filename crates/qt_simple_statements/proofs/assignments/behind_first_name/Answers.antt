use Rattle.std.proofs.Common.{rules, arith, ◌∙◌, sym}
use Rattle.std.proofs.lemmas.Grind.{common_steps}
use Rattle.qt_simple_statements.proofs.Tails.{indexed_is}
use Rattle.qt_simple_statements.proofs.assignments.behind_first_name.Goals as goal

pub returns-then-next_is : goal.returns-then-next_is
returns-then-next_is c =
    let e = indexed_is c.args.tokens.now c.args.levels c.args.name c.args.at (sym c.next_is.ensures ∙ c.if-next_is.true) in
    first_of (search rules, grind (arith, common_steps))
