use Rattle.std.proofs.Common.{arith, rules}
use Rattle.std.proofs.lemmas.Int.{ints}
use Rattle.qt_ring.proofs.Dividing.{root_two_halves, no_root_two}
use Rattle.qt_ring.proofs.omega.Omega.over_root2.Goals as goal

pub returns-then-not-alike-clause-value : goal.returns-then-not-alike-clause-value
returns-then-not-alike-clause-value c = no_root_two c.args.self (search rules)

pub returns-clause-value : goal.returns-clause-value
returns-clause-value c = root_two_halves c.args.self _ (omega (arith, ints)) (omega (arith, ints)) (omega (arith, ints)) (omega (arith, ints))
