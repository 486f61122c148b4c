use Rattle.std.proofs.Common.{rules}
use Rattle.qt_root2.proofs.Steps.{unit_fits, unit_first-fits, unit_second-fits, unit_root-fits, unit_whole-fits, unit_step}
use Rattle.qt_root2.proofs.numerator.Numerator.times_unit.Goals as goal

pub overflow_add-first : goal.overflow_add-first
overflow_add-first c =
    let x = c.args.self in
    unit_first-fits x.a x.b (unit_fits x.a x.b (search rules) (search rules) x.good c.requires)

pub overflow_add-second : goal.overflow_add-second
overflow_add-second c =
    let x = c.args.self in
    unit_second-fits x.a x.b (unit_fits x.a x.b (search rules) (search rules) x.good c.requires)

pub overflow_add-b : goal.overflow_add-b
overflow_add-b c =
    let x = c.args.self in
    unit_root-fits x.a x.b (unit_fits x.a x.b (search rules) (search rules) x.good c.requires)

pub overflow_add-a : goal.overflow_add-a
overflow_add-a c =
    let x = c.args.self in
    unit_whole-fits x.a x.b (unit_fits x.a x.b (search rules) (search rules) x.good c.requires)

pub invariant_of-result : goal.invariant_of-result
invariant_of-result c =
    let x = c.args.self in
    record { good = (unit_step x.a x.b x.good (unit_fits x.a x.b (search rules) (search rules) x.good c.requires)).0 }

pub returns : goal.returns
returns c =
    let x = c.args.self in
    (unit_step x.a x.b x.good (unit_fits x.a x.b (search rules) (search rules) x.good c.requires)).1
