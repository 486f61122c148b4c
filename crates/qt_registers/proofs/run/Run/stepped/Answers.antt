use Rattle.std.proofs.Common.{◌<◌, ◌*◌, arith, mul-pos, refl}
use Rattle.qt_registers.proofs.Runs.{run_qubits-stepped, stepped_within}
use Rattle.qt_registers.proofs.run.Run.stepped.Goals as goal

pub invariant_of-result-clause-moves : goal.invariant_of-result-clause-moves
invariant_of-result-clause-moves c =
    let positive : 0 < c.args.self.step * c.args.step = mul-pos c.args.self.moves c.requires.moves in
    rw c.saturating_mul.ensures (omega arith)

pub invariant_of-result-clause-within : goal.invariant_of-result-clause-within
invariant_of-result-clause-within c =
    rw (c.number.ensures.value, c.saturating_mul.ensures) (stepped_within c.args.self c.args.start c.args.step c.args.count c.requires.within)

pub returns : goal.returns
returns c =
    run_qubits-stepped c.args.self _ c.args.start c.args.step c.args.count c.requires.within refl c.number.ensures.value c.saturating_mul.ensures refl
