use Rattle.qt_lexemes.specs.Lexemes.{comma}
use Rattle.qt_print.specs.Programs.{parameter_lexemes, listed_parameters}
use Rattle.qt_print.proofs.Puts.{separated_turn}
use Rattle.qt_print.proofs.program.put_parameters.Goals as goal

pub loop-parameter-preserved : goal.loop-parameter-preserved
loop-parameter-preserved c = separated_turn parameter_lexemes comma c.loop-parameter.first _ _ _ _ (listed_parameters c.args.parameters.now) c.args.parameters.now c.loop-parameter.parameter-index c.parameter-item.result c.loop-parameter-test.true c.parameter-item.is c.put_between.ensures c.put_parameter.ensures c.loop-parameter.invariant
