use Rattle.qt_machine.specs.Writes.{held}
use Rattle.qt_resolved_gates.proofs.Acting.{resolved_prim, resolved_acts}
use Rattle.qt_resolved_gates.proofs.resolve.resolve.Goals as goal

pub returns-clause-prim : goal.returns-clause-prim
returns-clause-prim c = resolved_prim c.args.sizes c.args.primitive.now (held c.args.cells.now) c.resolved.result c.requires.there c.resolved.ensures.value c.resolved.ensures.angles

pub returns-clause-acts : goal.returns-clause-acts
returns-clause-acts c = resolved_acts c.args.sizes c.args.primitive.now (held c.args.cells.now) c.resolved.result c.requires.there c.resolved.ensures.value
