use Rattle.qt_canon.proofs.Planned.{scale_is}
use Rattle.qt_canon.proofs.plan.Plan.scale.Goals as goal

pub returns-clause-value : goal.returns-clause-value
returns-clause-value c = scale_is c.args.self c.norm_twos.result c.norm_primes.result c.norm_twos.ensures.value c.norm_twos.ensures.size c.norm_primes.ensures
