use Rattle.qt_print.specs.Statements.{plus_plus, operand_lexemes, parts_lexemes}
use Rattle.qt_print.proofs.Puts.{separated_turn}
use Rattle.qt_print.proofs.statement.put_parts.Goals as goal

pub loop-part-preserved : goal.loop-part-preserved
loop-part-preserved c = separated_turn operand_lexemes plus_plus c.loop-part.first _ _ _ _ (parts_lexemes c.args.parts.now) c.args.parts.now c.loop-part.part-index c.part-item.result c.loop-part-test.true c.part-item.is c.put_between.ensures c.put_operand.ensures c.loop-part.invariant
