use Rattle.std.proofs.Common.{rules}
use Rattle.qt_root2.proofs.Ring.{same_root2}
use Rattle.qt_root2.proofs.Steps.{half_fits, half_whole-fits, half_root-fits, half_whole_is, half_root_is, half_good}
use Rattle.qt_root2.proofs.Words.{word-half}
use Rattle.qt_root2.proofs.numerator.Numerator.times_half_prime.Goals as goal

pub overflow_sub-result : goal.overflow_sub-result
overflow_sub-result c =
    let x = c.args.self in
    let e = word-half x.a (search rules) c.if-self-eq0.true in
    half_whole-fits x.a x.b _ (half_fits x.a x.b _ (search rules) (search rules) e x.good c.requires)

pub overflow_sub-result-then-self-eq0 : goal.overflow_sub-result-then-self-eq0
overflow_sub-result-then-self-eq0 c =
    let x = c.args.self in
    let e = word-half x.a (search rules) c.if-self-eq0.true in
    half_root-fits x.a x.b _ (half_fits x.a x.b _ (search rules) (search rules) e x.good c.requires)

pub invariant_of-result : goal.invariant_of-result
invariant_of-result c =
    let x = c.args.self in
    let e = word-half x.a (search rules) c.if-self-eq0.true in
    record { good = half_good x.a x.b _ x.good (half_fits x.a x.b _ (search rules) (search rules) e x.good c.requires) }

pub returns-then-self-eq0-clause-half : goal.returns-then-self-eq0-clause-half
returns-then-self-eq0-clause-half c =
    let x = c.args.self in
    let e = word-half x.a (search rules) c.if-self-eq0.true in
    let u = half_fits x.a x.b _ (search rules) (search rules) e x.good c.requires in
    same_root2 _ _ (half_whole_is x.a x.b _ u) (half_root_is x.a x.b _ u)
