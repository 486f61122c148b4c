use Rattle.qt_ring.proofs.RingLaws.{conj_plus, conj_times, conj-one, conj_conj}
use Rattle.qt_ring.proofs.laws.conjugates.Goals as goal

pub returns-clause-sum : goal.returns-clause-sum
returns-clause-sum c = conj_plus

pub returns-clause-product : goal.returns-clause-product
returns-clause-product c = conj_times

pub returns-clause-one : goal.returns-clause-one
returns-clause-one c = conj-one

pub returns-clause-twice : goal.returns-clause-twice
returns-clause-twice c = conj_conj
