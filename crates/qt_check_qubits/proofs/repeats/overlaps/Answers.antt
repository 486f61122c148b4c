use Rattle.qt_check_qubits.proofs.Sharing.{overlaps_is}
use Rattle.qt_check_qubits.proofs.repeats.overlaps.Goals as goal

pub returns : goal.returns
returns c = overlaps_is c.overlaps.result c.args.register.now c.args.others.now c.overlaps.ensures
