use Rattle.std.proofs.Common.{rules}
use Rattle.qt_root2.proofs.Steps.{prime_fits, prime_whole-fits, prime_root-fits, prime_step}
use Rattle.qt_root2.proofs.numerator.Numerator.times_prime.Goals as goal

pub overflow_add-result : goal.overflow_add-result
overflow_add-result c =
    let x = c.args.self in
    prime_whole-fits x.a x.b (prime_fits x.a x.b (search rules) (search rules) x.good c.requires)

pub overflow_sub-result : goal.overflow_sub-result
overflow_sub-result c =
    let x = c.args.self in
    prime_root-fits x.a x.b (prime_fits x.a x.b (search rules) (search rules) x.good c.requires)

pub invariant_of-result : goal.invariant_of-result
invariant_of-result c =
    let x = c.args.self in
    record { good = (prime_step x.a x.b x.good (prime_fits x.a x.b (search rules) (search rules) x.good c.requires)).0 }

pub returns : goal.returns
returns c =
    let x = c.args.self in
    (prime_step x.a x.b x.good (prime_fits x.a x.b (search rules) (search rules) x.good c.requires)).1
