use Rattle.qt_root2.proofs.Good.{good_plus, good_times, good_bounded}
use Rattle.qt_root2.proofs.laws.good.Goals as goal

pub returns-clause-sums : goal.returns-clause-sums
returns-clause-sums c = good_plus

pub returns-clause-products : goal.returns-clause-products
returns-clause-products c = λ x y. good_times x.a x.b y.a y.b

pub returns-clause-bounded : goal.returns-clause-bounded
returns-clause-bounded c = good_bounded
