use Rattle.std.proofs.Common.{sym, ◌∙◌}
use Rattle.qt_plain.proofs.Rows.{cx_one, cx_zero}
use Rattle.qt_plain.proofs.gates.after_controlled_x.Goals.{then-bit, else-bit}
use Rattle.qt_plain.proofs.gates.after_controlled_x.Goals as goal

pub returns : goal.returns
returns c = elim c.if-bit.branch [
  | then-bit w ↦ cx_one c.args.qubits c.args.control c.args.target c.args.index _ c.args.entries.now _ _ c.requires.suits c.requires.index_in (sym c.bit.ensures ∙ w.if-bit.true) (w.from-is ∙ w.twin-from.ensures.value) c.entry.ensures.value c.doubled.ensures
  | else-bit w ↦ cx_zero c.args.qubits c.args.control c.args.target c.args.index _ c.args.entries.now _ _ c.requires.suits c.requires.index_in (sym c.bit.ensures ∙ w.if-bit.false) w.from-is c.entry.ensures.value c.doubled.ensures
]
