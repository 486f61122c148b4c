use Rattle.std.proofs.Common.{◌≡◌, ◌++◌, sym, ap, ◌∙◌, append-nil, arith}
use Rattle.qt_registers.specs.Registers.{stepped}
use Rattle.qt_registers.specs.Runs.{qubits_of, run_qubits}
use Rattle.qt_registers.proofs.Runs.{stepped_none}
use Rattle.qt_registers.proofs.register.push_stepped.Goals as goal

pub returns-else-count-gt0 : goal.returns-else-count-gt0
returns-else-count-gt0 c =
    let found = qubits_of c.args.found.now.items in
    let none : c.args.count ≡ 0 = omega arith in
    sym (ap (λ n. found ++ stepped (run_qubits c.args.run) c.args.start c.args.step n) none
    ∙ ap (λ l. found ++ l) (stepped_none (run_qubits c.args.run) c.args.start c.args.step)
    ∙ append-nil found)
