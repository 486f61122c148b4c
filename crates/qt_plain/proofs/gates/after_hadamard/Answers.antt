use Rattle.std.proofs.Common.{sym, ◌∙◌}
use Rattle.qt_plain.proofs.Rows.{h_one, h_zero, sum_size, difference_size}
use Rattle.qt_plain.proofs.gates.after_hadamard.Goals as goal

pub root2_times-requires : goal.root2_times-requires
root2_times-requires c = difference_size _ _ _ c.entry-there.ensures.size c.entry-here.ensures.size c.sub.ensures

pub root2_times-requires-else-bit : goal.root2_times-requires-else-bit
root2_times-requires-else-bit c = sum_size _ _ _ c.entry-here.ensures.size c.entry-there.ensures.size c.add.ensures

pub returns-then-bit : goal.returns-then-bit
returns-then-bit c =
    h_one c.args.qubits c.args.qubit c.args.index _ c.args.entries.now _ _ _ _ c.requires.suits c.requires.index_in (sym c.bit.ensures ∙ c.if-bit.true)
    c.twin.ensures.value c.entry-here.ensures.value c.entry-there.ensures.value c.sub.ensures c.root2_times.ensures

pub returns-else-bit : goal.returns-else-bit
returns-else-bit c =
    h_zero c.args.qubits c.args.qubit c.args.index _ c.args.entries.now _ _ _ _ c.requires.suits c.requires.index_in (sym c.bit.ensures ∙ c.if-bit.false)
    c.twin.ensures.value c.entry-here.ensures.value c.entry-there.ensures.value c.add.ensures c.root2_times-else-bit.ensures
