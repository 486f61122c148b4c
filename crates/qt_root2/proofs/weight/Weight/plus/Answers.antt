use Rattle.std.proofs.Common.{arith, rules}
use Rattle.std.proofs.lemmas.Int.{ints}
use Rattle.qt_root2.proofs.Good.{narrow, good_plus}
use Rattle.qt_root2.proofs.Words.{word-plus}
use Rattle.qt_root2.proofs.weight.Weight.plus.Goals as goal

pub overflow_add-result-2 : goal.overflow_add-result-2
overflow_add-result-2 c =
    let m = narrow c.args.self.a c.args.self.b c.args.self.good in
    let n = narrow c.args.other.a c.args.other.b c.args.other.good in
    omega (arith, ints)

pub returns-clause-a : goal.returns-clause-a
returns-clause-a c =
    let m = narrow c.args.self.a c.args.self.b c.args.self.good in
    let n = narrow c.args.other.a c.args.other.b c.args.other.good in
    omega (arith, ints)

pub returns-clause-b : goal.returns-clause-b
returns-clause-b c =
    let m = narrow c.args.self.a c.args.self.b c.args.self.good in
    let n = narrow c.args.other.a c.args.other.b c.args.other.good in
    omega (arith, ints)

pub invariant_of-result : goal.invariant_of-result
invariant_of-result c =
    let m = narrow c.args.self.a c.args.self.b c.args.self.good in
    let n = narrow c.args.other.a c.args.other.b c.args.other.good in
    rw (word-plus c.args.self.a c.args.other.a (search rules) (search rules) (omega (arith, ints)), word-plus c.args.self.b c.args.other.b (search rules) (search rules) (omega (arith, ints)))
    record { good = good_plus c.args.self.a c.args.self.b c.args.other.a c.args.other.b c.args.self.good c.args.other.good; bounded = c.requires }
