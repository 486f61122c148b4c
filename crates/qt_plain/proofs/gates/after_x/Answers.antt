use Rattle.qt_plain.proofs.Rows.{x_any}
use Rattle.qt_plain.proofs.gates.after_x.Goals as goal

pub returns : goal.returns
returns c = x_any c.args.qubits c.args.qubit c.args.index _ c.args.entries.now _ _ c.requires.suits c.requires.index_in c.twin.ensures.value c.entry.ensures.value c.doubled.ensures
