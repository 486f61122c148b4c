use Rattle.std.proofs.Common.{rules, arith, ◌≡◌, ◌≢◌, ◌-◌, None, Ok, Err}
use Rattle.std.proofs.lemmas.Grind.{common_steps}
use Rattle.qt_grammar.specs.declared.refusal.Refusal.TheVariants.{OutOfMemory}
use Rattle.qt_expr.specs.Parser.{read_expression}
use Rattle.qt_expr.proofs.Promises.{kept}
use Rattle.qt_expr.proofs.parse_expr.expression_at.Goals as goal

pub returns-in-Ok : goal.returns-in-Ok
returns-in-Ok c =
    let h : read_expression c.args.tokens.now (64 - c.args.depth) None c.args.at ≡ Ok c.in-Ok.found = first_of (search rules, grind (arith, common_steps)) in
    kept c.args.tokens.now c.args.depth c.args.at (Ok c.in-Ok.found) h

pub returns-in-Err : goal.returns-in-Err
returns-in-Err c =
    let h : c.in-Err.refusal ≢ OutOfMemory → read_expression c.args.tokens.now (64 - c.args.depth) None c.args.at ≡ Err c.in-Err.refusal = first_of (search rules, grind (arith, common_steps)) in
    (c.in-Err.refusal, kept c.args.tokens.now c.args.depth c.args.at (Err c.in-Err.refusal) h, c.located.ensures)
