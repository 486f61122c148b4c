use Rattle.std.proofs.Common.{map}
use Rattle.qt_lexemes.specs.Lexemes.{joined}
use Rattle.qt_print.specs.Statements.{modifying}
use Rattle.qt_print.proofs.Puts.{joined_turn}
use Rattle.qt_print.proofs.statement.put_modifiers.Goals as goal

pub loop-modifier-preserved : goal.loop-modifier-preserved
loop-modifier-preserved c = joined_turn modifying _ _ _ (joined (map modifying c.args.modifiers.now)) c.args.modifiers.now c.loop-modifier.modifier-index c.modifier-item.result c.loop-modifier-test.true c.modifier-item.is c.put_modifying.ensures c.loop-modifier.invariant
