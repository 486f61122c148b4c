use Rattle.qt_lexemes.specs.Lexemes.{comma}
use Rattle.qt_print.specs.Programs.{name_lexemes, names_lexemes}
use Rattle.qt_print.proofs.Puts.{separated_turn}
use Rattle.qt_print.proofs.program.put_names.Goals as goal

pub loop-name-preserved : goal.loop-name-preserved
loop-name-preserved c = separated_turn name_lexemes comma c.loop-name.first _ _ _ _ (names_lexemes c.args.names.now) c.args.names.now c.loop-name.name-index c.name-item.result c.loop-name-test.true c.name-item.is c.put_between.ensures c.put_name.ensures c.loop-name.invariant
