use Rattle.qt_lexemes.specs.Lexemes.{comma}
use Rattle.qt_print.specs.Statements.{operand_lexemes, operands_lexemes}
use Rattle.qt_print.proofs.Puts.{separated_turn}
use Rattle.qt_print.proofs.statement.put_operands.Goals as goal

pub loop-operand-preserved : goal.loop-operand-preserved
loop-operand-preserved c = separated_turn operand_lexemes comma c.loop-operand.first _ _ _ _ (operands_lexemes c.args.operands.now) c.args.operands.now c.loop-operand.operand-index c.operand-item.result c.loop-operand-test.true c.operand-item.is c.put_between.ensures c.put_operand.ensures c.loop-operand.invariant
