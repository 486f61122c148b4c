use Rattle.qt_ring.proofs.Norms.{norm_a-nonneg, norm_good, norm_zero}
use Rattle.qt_ring.proofs.Units.{norm_whole, norm_of_product}
use Rattle.qt_ring.proofs.laws.norms.Goals as goal

pub returns-clause-whole : goal.returns-clause-whole
returns-clause-whole c = norm_whole

pub returns-clause-product : goal.returns-clause-product
returns-clause-product c = norm_of_product

pub returns-clause-good : goal.returns-clause-good
returns-clause-good c = λ x. (norm_a-nonneg x, norm_good x)

pub returns-clause-zero : goal.returns-clause-zero
returns-clause-zero c = norm_zero
