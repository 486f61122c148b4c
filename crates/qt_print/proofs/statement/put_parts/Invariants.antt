use Rattle.std.proofs.Common.{true, map, drop}
use Rattle.qt_print.specs.Statements.{plus_plus}
use Rattle.qt_print.specs.Statements.{operand_lexemes}
use Rattle.qt_print.proofs.Puts.{Left, still_separated}
use Rattle.qt_print.proofs.statement.put_parts.Given as goal

-- what is put and the parts still to come are the whole
abbrev pub invariant-loop-part : goal.invariant-loop-part
invariant-loop-part l = Left l.fn.page (still_separated true plus_plus (map operand_lexemes l.parts)) l.page (still_separated l.first plus_plus (map operand_lexemes (drop l.part-index l.parts)))
