use Rattle.qt_machine.proofs.Bits.{named_with}
use Rattle.qt_machine.proofs.qubits.Named.with.Goals as goal

pub returns-else-self : goal.returns-else-self
returns-else-self c = named_with c.args.self c.args.qubit c.requires c.if-self.false
