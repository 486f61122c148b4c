use Rattle.std.proofs.Common.{◌∙◌, ap, length, rules, sym}
use Rattle.qt_registers.specs.Runs.{qubits_of}
use Rattle.qt_registers.proofs.Runs.{length_stepped}
use Rattle.qt_registers.proofs.register.Register.stepped.Goals as goal

pub stepped_runs-requires-clause-room : goal.stepped_runs-requires-clause-room
stepped_runs-requires-clause-room c = rw (c.as_slice.ensures.value, ← c.self.invariant.0) c.self.invariant.1

pub invariant_of-result : goal.invariant_of-result
invariant_of-result c =
    let within = rw (← c.self.view_is) at c.requires.within in
    let size = ap length c.in_ok-stepped_runs.ensures ∙ rw c.as_slice.ensures.value (length_stepped (qubits_of c.self.inside.runs.items) c.args.start c.args.step c.args.count within) in
    (sym size, search rules)
