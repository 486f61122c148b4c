use Rattle.std.proofs.Common.{sym, ◌∙◌}
use Rattle.qt_plain.proofs.Rows.{t_one, t_zero}
use Rattle.qt_plain.proofs.gates.after_t.Goals as goal

pub returns-then-bit : goal.returns-then-bit
returns-then-bit c = t_one c.args.qubits c.args.qubit c.args.index c.args.entries.now _ _ c.requires.suits c.requires.index_in (sym c.bit.ensures ∙ c.if-bit.true) c.entry-here.ensures.value c.times_omega.ensures.value

pub returns-else-bit : goal.returns-else-bit
returns-else-bit c = t_zero c.args.qubits c.args.qubit c.args.index c.args.entries.now _ c.requires.suits c.requires.index_in (sym c.bit.ensures ∙ c.if-bit.false) c.entry-here.ensures.value
