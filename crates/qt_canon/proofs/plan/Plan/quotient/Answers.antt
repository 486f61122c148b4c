use Rattle.qt_canon.proofs.Planned.{quotient_is}
use Rattle.qt_canon.proofs.plan.Plan.quotient.Goals as goal

pub returns : goal.returns
returns c = quotient_is c.args.self c.args.x c.quotient-rest.result _ _ c.quotient-rest.ensures.value c.times.ensures.value c.turned_by.ensures.value
