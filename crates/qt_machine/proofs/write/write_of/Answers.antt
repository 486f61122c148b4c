use Rattle.qt_machine.proofs.Widths.{types_there}
use Rattle.qt_machine.proofs.write.write_of.Goals as goal

pub result-requires : goal.result-requires
result-requires c = types_there c.args.sizes c.args.instruction.now c.in-Apply.cell c.in-Apply.operation c.in-Apply.is c.requires.there
