use Rattle.std.proofs.Common.{rules, arith}
use Rattle.std.proofs.lemmas.Grind.{common_steps}
use Rattle.qt_simple_statements.proofs.Tails.{compound_is}
use Rattle.qt_simple_statements.proofs.assignments.compound.Goals as goal

pub returns-in_err-value : goal.returns-in_err-value
returns-in_err-value c =
    let e = compound_is c.args.tokens.now c.args.levels c.args.target c.args.at c.in-Some.ensures.yes in
    first_of (search rules, grind (arith, common_steps))

pub returns : goal.returns
returns c =
    let e = compound_is c.args.tokens.now c.args.levels c.args.target c.args.at c.in-Some.ensures.yes in
    first_of (search rules, grind (arith, common_steps))
