-- The laws, in the words of the definitions.
use Rattle.std.proofs.Common.{◌+◌, refl}
use Rattle.qt_flat_expressions.specs.Laws.{ExpressionsLand}
use Rattle.qt_flat_code.specs.Lengths.{expression_length}
use Rattle.qt_flat_expressions.proofs.Expressions.{expression_comes}

pub expressions_land : ExpressionsLand
expressions_land code place e slots base cell at fits h = record {
  by = λ cells p. (expression_comes code place p base slots e fits cell at (at + expression_length e) cells h refl).out;
}
