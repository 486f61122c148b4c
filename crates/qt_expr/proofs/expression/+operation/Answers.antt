use Rattle.std.proofs.Common.{◌≡◌, ◌-◌, ◌∙◌, true, false, rules, arith}
use Rattle.std.proofs.lemmas.Grind.{common_steps}
use Rattle.qt_terminals.specs.Terminals.{stream}
use Rattle.qt_grammar.specs.Form.{member, terminal_at}
use Rattle.qt_grammar.specs.Language.{ops_at}
use Rattle.qt_expr.proofs.Steps.{more_end, more_stop, more_go_on, more_refuse}
use Rattle.qt_expr.proofs.expression.+operation.Goals as goal

pub more_operands-returns : goal.more_operands-returns
more_operands-returns t c =
    c.turn.invariant ∙ more_end c.args.tokens.now c.args.nesting.levels c.args.nesting.outer c.args.strength c.len-turn-end.result c.turn.turn c.turn.left c.turn.at c.turn-test.false

pub more_operands-returns-in_default : goal.more_operands-returns-in_default
more_operands-returns-in_default t c =
    let ts = c.args.tokens.now in
    let other : member (terminal_at (stream ts) c.turn.at) (ops_at c.args.strength) ≡ false = first_of (search rules, grind (arith, common_steps)) in
    c.turn.invariant ∙ more_stop ts c.args.nesting.levels c.args.nesting.outer c.args.strength (c.len-turn-end.result - c.turn.turn) c.turn.left c.turn.at other

pub more_operands-returns-in_err-before : goal.more_operands-returns-in_err-before
more_operands-returns-in_err-before t c =
    let ts = c.args.tokens.now in
    let more : member (terminal_at (stream ts) c.turn.at) (ops_at c.args.strength) ≡ true = first_of (search rules, grind (arith, common_steps)) in
    let e = c.turn.invariant ∙ more_refuse ts c.args.nesting.levels c.args.nesting.outer c.args.strength c.len-turn-end.result c.turn.turn c.turn.left c.turn.at c.turn-test.true more c.in_err-before.ensures.one_too_many in
    first_of (search rules, grind (arith, common_steps))

pub more_operands-returns-in_err-both : goal.more_operands-returns-in_err-both
more_operands-returns-in_err-both t c =
    let ts = c.args.tokens.now in
    let more : member (terminal_at (stream ts) c.turn.at) (ops_at c.args.strength) ≡ true = first_of (search rules, grind (arith, common_steps)) in
    let e = c.turn.invariant ∙ more_go_on ts c.args.nesting.levels c.args.nesting.outer c.args.strength c.len-turn-end.result c.turn.turn c.turn.left c.turn.at c.turn-test.true more c.in_ok-before.ensures.fits in
    first_of (search rules, grind (arith, common_steps))

pub more_operands-turn-preserved : goal.more_operands-turn-preserved
more_operands-turn-preserved t c =
    let ts = c.args.tokens.now in
    let more : member (terminal_at (stream ts) c.turn.at) (ops_at c.args.strength) ≡ true = first_of (search rules, grind (arith, common_steps)) in
    let e = c.turn.invariant ∙ more_go_on ts c.args.nesting.levels c.args.nesting.outer c.args.strength c.len-turn-end.result c.turn.turn c.turn.left c.turn.at c.turn-test.true more c.in_ok-before.ensures.fits in
    first_of (search rules, grind (arith, common_steps))
