use Rattle.std.proofs.Common.{◌≡◌, ◌-◌, ◌∙◌, true, false, rules, arith}
use Rattle.std.proofs.lemmas.Grind.{common_steps}
use Rattle.qt_grammar.specs.Lookahead.{first}
use Rattle.qt_terminals.specs.Terminals.{stream}
use Rattle.qt_grammar.specs.Sorts.{index, several}
use Rattle.qt_grammar.specs.Form.{member, terminal_at}
use Rattle.qt_grammar.specs.Language.{indexes}
use Rattle.qt_expr.proofs.Loops.{some_ends, some_stops}
use Rattle.qt_expr.proofs.Lists.{all_indexes_go_on}
use Rattle.qt_expr.proofs.reader.Reader.more_of_all_indexes.Goals as goal

pub returns : goal.returns
returns g c =
    let ts = c.args.tokens.now in
    c.turn.invariant ∙ some_ends ts {s = several index} (indexes) c.args.nesting.levels c.args.nesting.outer c.len-turn-end.result c.turn.turn c.turn.all c.turn.at c.turn-test.false

pub returns-then-not-next_is : goal.returns-then-not-next_is
returns-then-not-next_is g c =
    let ts = c.args.tokens.now in
    let other : member (terminal_at (stream ts) c.turn.at) (first {s = several index} indexes) ≡ false = first_of (search rules, grind (arith, common_steps)) in
    c.turn.invariant ∙ some_stops ts {s = several index} (indexes) c.args.nesting.levels c.args.nesting.outer (c.len-turn-end.result - c.turn.turn) c.turn.all c.turn.at other

pub returns-in_err-at : goal.returns-in_err-at
returns-in_err-at g c =
    let ts = c.args.tokens.now in
    let more : member (terminal_at (stream ts) c.turn.at) (first {s = several index} indexes) ≡ true = first_of (search rules, grind (arith, common_steps)) in
    let e = c.turn.invariant ∙ all_indexes_go_on ts c.args.nesting.levels c.args.nesting.outer c.len-turn-end.result c.turn.turn c.turn.all c.turn.at c.turn-test.true more in
    first_of (search rules, grind (arith, common_steps))

pub turn-preserved : goal.turn-preserved
turn-preserved g c =
    let ts = c.args.tokens.now in
    let more : member (terminal_at (stream ts) c.turn.at) (first {s = several index} indexes) ≡ true = first_of (search rules, grind (arith, common_steps)) in
    let e = c.turn.invariant ∙ all_indexes_go_on ts c.args.nesting.levels c.args.nesting.outer c.len-turn-end.result c.turn.turn c.turn.all c.turn.at c.turn-test.true more in
    first_of (search rules, grind (arith, common_steps))
