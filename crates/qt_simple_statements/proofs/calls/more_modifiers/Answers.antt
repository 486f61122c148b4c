use Rattle.std.proofs.Common.{◌≡◌, ◌-◌, ◌∙◌, true, false, None, rules, arith}
use Rattle.std.proofs.lemmas.Grind.{common_steps}
use Rattle.qt_grammar.specs.Lookahead.{first}
use Rattle.qt_terminals.specs.Terminals.{stream}
use Rattle.qt_grammar.specs.Sorts.{modifier}
use Rattle.qt_grammar.specs.Form.{member, terminal_at}
use Rattle.qt_simple_statements.specs.Parser.{modifier_with_at}
use Rattle.qt_expr.proofs.Loops.{some_ends, some_stops}
use Rattle.qt_simple_statements.proofs.Lists.{modifiers_go_on}
use Rattle.qt_simple_statements.proofs.calls.more_modifiers.Goals as goal

pub returns : goal.returns
returns c =
    let ts = c.args.tokens.now in
    c.turn.invariant ∙ some_ends ts {s = modifier} modifier_with_at c.args.levels None c.len-turn-end.result c.turn.turn c.turn.all c.turn.at c.turn-test.false

pub returns-then-not-begins_modifier : goal.returns-then-not-begins_modifier
returns-then-not-begins_modifier c =
    let ts = c.args.tokens.now in
    let other : member (terminal_at (stream ts) c.turn.at) (first {s = modifier} modifier_with_at) ≡ false = first_of (search rules, grind (arith, common_steps)) in
    c.turn.invariant ∙ some_stops ts {s = modifier} modifier_with_at c.args.levels None (c.len-turn-end.result - c.turn.turn) c.turn.all c.turn.at other

pub returns-in_err-at : goal.returns-in_err-at
returns-in_err-at c =
    let ts = c.args.tokens.now in
    let more : member (terminal_at (stream ts) c.turn.at) (first {s = modifier} modifier_with_at) ≡ true = first_of (search rules, grind (arith, common_steps)) in
    let e = c.turn.invariant ∙ modifiers_go_on ts c.args.levels c.len-turn-end.result c.turn.turn c.turn.all c.turn.at c.turn-test.true more in
    first_of (search rules, grind (arith, common_steps))

pub turn-preserved : goal.turn-preserved
turn-preserved c =
    let ts = c.args.tokens.now in
    let more : member (terminal_at (stream ts) c.turn.at) (first {s = modifier} modifier_with_at) ≡ true = first_of (search rules, grind (arith, common_steps)) in
    let e = c.turn.invariant ∙ modifiers_go_on ts c.args.levels c.len-turn-end.result c.turn.turn c.turn.all c.turn.at c.turn-test.true more in
    first_of (search rules, grind (arith, common_steps))
