use Rattle.std.proofs.Common.{map, drop}
use Rattle.qt_lexemes.specs.Lexemes.{comma, each_behind}
use Rattle.qt_print.specs.Expressions.{expr_lexemes}
use Rattle.qt_print.proofs.Puts.{Left}
use Rattle.qt_print.proofs.program.put_dimensions.Given as goal

-- what is put and the dimensions still to come are the whole
abbrev pub invariant-loop-dimension : goal.invariant-loop-dimension
invariant-loop-dimension l = Left l.fn.page (each_behind comma (map expr_lexemes l.dimensions)) l.page (each_behind comma (map expr_lexemes (drop l.dimension-index l.dimensions)))
