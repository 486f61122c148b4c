use Rattle.qt_kernel.proofs.RowSums.{low_row_is}
use Rattle.qt_kernel.proofs.gate.Angles.low_row.Goals as goal

pub returns-clause-value : goal.returns-clause-value
returns-clause-value c = low_row_is c.args.self c.args.low c.args.high _ _ _ _ _ c.sum_of_four.ensures.value c.times_omega.ensures.value c.times_omega-2.ensures.value c.times_omega-3.ensures.value c.times_omega-4.ensures.value
