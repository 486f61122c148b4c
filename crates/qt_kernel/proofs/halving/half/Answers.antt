use Rattle.qt_kernel.proofs.Halves.{doubled, half_size}
use Rattle.qt_kernel.proofs.halving.half.Goals as goal

pub returns-clause-value : goal.returns-clause-value
returns-clause-value c = doubled c.args.x _ _ _ _ c.requires.size c.half_of.ensures.value c.half_of-2.ensures.value c.half_of-3.ensures.value c.half_of-4.ensures.value

pub returns-clause-size : goal.returns-clause-size
returns-clause-size c = half_size c.half_of.result c.half_of-2.result c.half_of-3.result c.half_of-4.result c.half_of.ensures.size c.half_of-2.ensures.size c.half_of-3.ensures.size c.half_of-4.ensures.size
