use Rattle.std.proofs.Common.{◌≡◌, ◌-◌, ◌∙◌, [], ◌∷◌, true, false, None, rules, arith}
use Rattle.std.proofs.lemmas.Grind.{common_steps}
use Rattle.qt_terminals.specs.Alphabet.{code}
use Rattle.qt_terminals.specs.Terminals.{stream}
use Rattle.qt_grammar.specs.Sorts.{operand}
use Rattle.qt_grammar.specs.Form.{member, terminal_at}
use Rattle.qt_grammar.specs.Language.{an_operand}
use Rattle.qt_expr.proofs.Loops.{separated_ends, separated_stops}
use Rattle.qt_simple_statements.proofs.Lists.{operands_go_on}
use Rattle.qt_simple_statements.proofs.operands.more_operands.Goals as goal

pub returns : goal.returns
returns c =
    let ts = c.args.tokens.now in
    c.turn.invariant ∙ separated_ends ts {s = operand} an_operand c.args.levels None c.args.between c.len-turn-end.result c.turn.turn c.turn.all c.turn.at c.turn-test.false

pub returns-then-not-next_is : goal.returns-then-not-next_is
returns-then-not-next_is c =
    let ts = c.args.tokens.now in
    let other : member (terminal_at (stream ts) c.turn.at) (code c.args.between ∷ []) ≡ false = first_of (search rules, grind (arith, common_steps)) in
    c.turn.invariant ∙ separated_stops ts {s = operand} an_operand c.args.levels None c.args.between (c.len-turn-end.result - c.turn.turn) c.turn.all c.turn.at other

pub returns-in_err-at : goal.returns-in_err-at
returns-in_err-at c =
    let ts = c.args.tokens.now in
    let more : member (terminal_at (stream ts) c.turn.at) (code c.args.between ∷ []) ≡ true = first_of (search rules, grind (arith, common_steps)) in
    let e = c.turn.invariant ∙ operands_go_on ts c.args.levels c.args.between c.len-turn-end.result c.turn.turn c.turn.all c.turn.at c.turn-test.true more in
    first_of (search rules, grind (arith, common_steps))

pub turn-preserved : goal.turn-preserved
turn-preserved c =
    let ts = c.args.tokens.now in
    let more : member (terminal_at (stream ts) c.turn.at) (code c.args.between ∷ []) ≡ true = first_of (search rules, grind (arith, common_steps)) in
    let e = c.turn.invariant ∙ operands_go_on ts c.args.levels c.args.between c.len-turn-end.result c.turn.turn c.turn.all c.turn.at c.turn-test.true more in
    first_of (search rules, grind (arith, common_steps))
