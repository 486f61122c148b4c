use Rattle.std.proofs.Common.{length}
use Rattle.qt_machine.proofs.Lists.{cell_put}
use Rattle.qt_machine.proofs.write.Write.put.Goals as goal

pub returns-in-Cell-clause-cells : goal.returns-in-Cell-clause-cells
returns-in-Cell-clause-cells c = cell_put c.args.cells.now (length c.args.slots.now) c.args.self c.in-Cell.cell c.in-Cell.bits c.in-Cell.is c.requires
