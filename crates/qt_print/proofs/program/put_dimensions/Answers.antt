use Rattle.std.proofs.Common.{map}
use Rattle.qt_lexemes.specs.Lexemes.{comma, each_behind}
use Rattle.qt_print.specs.Expressions.{expr_lexemes}
use Rattle.qt_print.proofs.Puts.{behind_turn}
use Rattle.qt_print.proofs.program.put_dimensions.Goals as goal

pub loop-dimension-preserved : goal.loop-dimension-preserved
loop-dimension-preserved c = behind_turn expr_lexemes comma _ _ _ _ (each_behind comma (map expr_lexemes c.args.dimensions.now)) c.args.dimensions.now c.loop-dimension.dimension-index c.dimension-item.result c.loop-dimension-test.true c.dimension-item.is c.put.ensures c.put_expr.ensures c.loop-dimension.invariant
