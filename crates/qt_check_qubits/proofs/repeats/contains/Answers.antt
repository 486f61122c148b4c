use Rattle.qt_check_qubits.proofs.Sharing.{contains_is}
use Rattle.qt_check_qubits.proofs.repeats.contains.Goals as goal

pub returns : goal.returns
returns c = contains_is c.holds.result c.args.register.now c.args.qubit c.holds.ensures
