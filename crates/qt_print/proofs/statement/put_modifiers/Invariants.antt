use Rattle.std.proofs.Common.{map, drop}
use Rattle.qt_lexemes.specs.Lexemes.{joined}
use Rattle.qt_print.specs.Statements.{modifying}
use Rattle.qt_print.proofs.Puts.{Left}
use Rattle.qt_print.proofs.statement.put_modifiers.Given as goal

-- what is put and the modifiers still to come are the whole
abbrev pub invariant-loop-modifier : goal.invariant-loop-modifier
invariant-loop-modifier l = Left l.fn.page (joined (map modifying l.modifiers)) l.page (joined (map modifying (drop l.modifier-index l.modifiers)))
