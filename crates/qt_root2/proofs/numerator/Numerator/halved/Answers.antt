use Rattle.std.proofs.Common.{rules}
use Rattle.qt_root2.proofs.Good.{good_half}
use Rattle.qt_root2.proofs.Ring.{same_root2}
use Rattle.qt_root2.proofs.Words.{word-half}
use Rattle.qt_root2.proofs.numerator.Numerator.halved.Goals as goal

pub invariant_of-result : goal.invariant_of-result
invariant_of-result c =
    let a = word-half c.args.self.a (search rules) c.if-self-eq0.true in
    let b = word-half c.args.self.b (search rules) c.if-self-eq0-2.true in
    record { good = good_half _ _ (rw (a, b) c.args.self.good) }

pub returns-then-self-eq0-2-clause-half : goal.returns-then-self-eq0-2-clause-half
returns-then-self-eq0-2-clause-half c =
    same_root2 _ _ (word-half c.args.self.a (search rules) c.if-self-eq0.true) (word-half c.args.self.b (search rules) c.if-self-eq0-2.true)
