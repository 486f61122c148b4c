use Rattle.std.proofs.Common.{arith, rules}
use Rattle.std.proofs.lemmas.Int.{ints}
use Rattle.qt_root2.proofs.Good.{narrow, good_plus}
use Rattle.qt_root2.proofs.Ring.{same_root2}
use Rattle.qt_root2.proofs.Words.{word-plus}
use Rattle.qt_root2.proofs.numerator.Numerator.doubled.Goals as goal

pub overflow_add-result-2 : goal.overflow_add-result-2
overflow_add-result-2 c =
    let n = narrow c.args.self.a c.args.self.b c.args.self.good in
    omega (arith, ints)

pub invariant_of-result : goal.invariant_of-result
invariant_of-result c =
    let x = c.args.self in
    let n = narrow x.a x.b x.good in
    let e = word-plus x.a x.a (search rules) (search rules) (omega (arith, ints)) in
    let f = word-plus x.b x.b (search rules) (search rules) (omega (arith, ints)) in
    rw (e, f) record { good = good_plus x.a x.b x.a x.b x.good x.good }

pub returns : goal.returns
returns c =
    let x = c.args.self in
    let n = narrow x.a x.b x.good in
    same_root2 _ _ (word-plus x.a x.a (search rules) (search rules) (omega (arith, ints))) (word-plus x.b x.b (search rules) (search rules) (omega (arith, ints)))
