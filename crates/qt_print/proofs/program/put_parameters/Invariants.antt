use Rattle.std.proofs.Common.{true, map, drop}
use Rattle.qt_lexemes.specs.Lexemes.{comma}
use Rattle.qt_print.specs.Programs.{parameter_lexemes}
use Rattle.qt_print.proofs.Puts.{Left, still_separated}
use Rattle.qt_print.proofs.program.put_parameters.Given as goal

-- what is put and the parts still to come are the whole
abbrev pub invariant-loop-parameter : goal.invariant-loop-parameter
invariant-loop-parameter l = Left l.fn.page (still_separated true comma (map parameter_lexemes l.parameters)) l.page (still_separated l.first comma (map parameter_lexemes (drop l.parameter-index l.parameters)))
