use Rattle.std.proofs.Common.{◌≡◌, ◌+◌, ◌-◌, ◌*◌, None, length}
use Rattle.qt_grammar.specs.Sorts.{statement}
use Rattle.qt_grammar.specs.Language as g
use Rattle.qt_expr.specs.Parser.{rest_some}
use Rattle.qt_parse.proofs.bodies.+statement.Given as goal

abbrev pub invariant-more_statements-turn : goal.invariant-more_statements-turn
invariant-more_statements-turn l = rest_some l.tokens {s = statement} g.a_statement l.levels None (length l.tokens) l.fn.all l.fn.at
    ≡ rest_some l.tokens {s = statement} g.a_statement l.levels None (l.turn-end - l.turn) l.all l.at

abbrev pub decreases-block : goal.decreases-block
decreases-block l = 16 * l.levels

abbrev pub decreases-single : goal.decreases-single
decreases-single l = 16 * l.levels

abbrev pub decreases-block_or_none : goal.decreases-block_or_none
decreases-block_or_none l = 16 * l.levels + 1

abbrev pub decreases-braced : goal.decreases-braced
decreases-braced l = 16 * l.levels + 2

abbrev pub decreases-body : goal.decreases-body
decreases-body l = 16 * l.levels + 3

abbrev pub decreases-otherwise : goal.decreases-otherwise
decreases-otherwise l = 16 * l.levels + 4

abbrev pub decreases-branches : goal.decreases-branches
decreases-branches l = 16 * l.levels + 5

abbrev pub decreases-values_and_body : goal.decreases-values_and_body
decreases-values_and_body l = 16 * l.levels + 4

abbrev pub decreases-named_loop : goal.decreases-named_loop
decreases-named_loop l = 16 * l.levels + 5

abbrev pub decreases-if_statement : goal.decreases-if_statement
decreases-if_statement l = 16 * l.levels + 6

abbrev pub decreases-while_loop : goal.decreases-while_loop
decreases-while_loop l = 16 * l.levels + 6

abbrev pub decreases-for_loop : goal.decreases-for_loop
decreases-for_loop l = 16 * l.levels + 6

abbrev pub decreases-statement_form : goal.decreases-statement_form
decreases-statement_form l = 16 * l.levels + 7

abbrev pub decreases-statement : goal.decreases-statement
decreases-statement l = 16 * l.levels + 8

abbrev pub decreases-more_statements : goal.decreases-more_statements
decreases-more_statements l = 16 * l.levels + 9

abbrev pub decreases-statements : goal.decreases-statements
decreases-statements l = 16 * l.levels + 10
