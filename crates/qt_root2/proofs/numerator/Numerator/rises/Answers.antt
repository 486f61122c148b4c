use Rattle.std.proofs.Common.{rules}
use Rattle.qt_root2.proofs.Words.{rises_test}
use Rattle.qt_root2.proofs.numerator.Numerator.rises.Goals as goal

pub returns : goal.returns
returns c =
    let x = c.args.self in
    rises_test x.a x.b (search rules) (search rules) x.good.0
