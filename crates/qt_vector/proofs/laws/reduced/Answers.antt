use Rattle.qt_vector.proofs.Reduced.{some_reduced, one_reduced}
use Rattle.qt_vector.proofs.laws.reduced.Goals as goal

pub returns-clause-some : goal.returns-clause-some
returns-clause-some c = some_reduced

pub returns-clause-one : goal.returns-clause-one
returns-clause-one c = one_reduced
