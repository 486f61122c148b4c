use Rattle.std.proofs.Common.{true, map, drop}
use Rattle.qt_lexemes.specs.Lexemes.{comma}
use Rattle.qt_print.specs.Statements.{operand_lexemes}
use Rattle.qt_print.proofs.Puts.{Left, still_separated}
use Rattle.qt_print.proofs.statement.put_operands.Given as goal

-- what is put and the parts still to come are the whole
abbrev pub invariant-loop-operand : goal.invariant-loop-operand
invariant-loop-operand l = Left l.fn.page (still_separated true comma (map operand_lexemes l.operands)) l.page (still_separated l.first comma (map operand_lexemes (drop l.operand-index l.operands)))
