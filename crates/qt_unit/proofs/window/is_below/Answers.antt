use Rattle.qt_unit.proofs.Words.{twice_fits, below_test}
use Rattle.qt_unit.proofs.window.is_below.Goals as goal

pub overflow_mul-result : goal.overflow_mul-result
overflow_mul-result c = twice_fits c.root_part.result c.root_part.ensures.size

pub returns : goal.returns
returns c = below_test c.whole_part.result c.root_part.result _ _ c.whole_part.ensures.size c.root_part.ensures.size c.whole_part.ensures.value c.root_part.ensures.value
