use Rattle.std.proofs.Common.{map}
use Rattle.qt_lexemes.specs.Lexemes.{comma, separated}
use Rattle.qt_print.specs.Expressions.{expr_lexemes, index_lexemes, bracket_lexemes, brackets_lexemes, list_lexemes}
use Rattle.qt_print.proofs.Puts.{joined_turn, separated_turn}
use Rattle.qt_print.proofs.expression.+expression.Goals as goal

pub put_list-loop-expr-preserved : goal.put_list-loop-expr-preserved
put_list-loop-expr-preserved t c = separated_turn expr_lexemes comma c.loop-expr.first _ _ _ _ (list_lexemes c.args.all.now) c.args.all.now c.loop-expr.expr-index c.expr-item.result c.loop-expr-test.true c.expr-item.is c.put_between.ensures c.put_expr.ensures c.loop-expr.invariant

pub put_indexes-loop-index-preserved : goal.put_indexes-loop-index-preserved
put_indexes-loop-index-preserved t c = separated_turn index_lexemes comma c.loop-index.first _ _ _ _ (separated comma (map index_lexemes c.args.indexes.now)) c.args.indexes.now c.loop-index.index-index c.index-item.result c.loop-index-test.true c.index-item.is c.put_between.ensures c.put_index.ensures c.loop-index.invariant

pub put_brackets-loop-indexes-preserved : goal.put_brackets-loop-indexes-preserved
put_brackets-loop-indexes-preserved t c = joined_turn bracket_lexemes _ _ _ (brackets_lexemes c.args.brackets.now) c.args.brackets.now c.loop-indexes.indexes-index c.indexes-item.result c.loop-indexes-test.true c.indexes-item.is (rw (← c.as_slice.ensures) c.put_bracket.ensures) c.loop-indexes.invariant
