use Rattle.std.proofs.Common.{slice_get, sym, ap, ◌∙◌}
use Rattle.qt_registers.proofs.Stepping.{get_behind, get_first, no_qubits}
use Rattle.qt_registers.proofs.register.qubit_at.Goals as goal

pub returns-then-place-run : goal.returns-then-place-run
returns-then-place-run c =
    sym c.qubit.ensures
    ∙ sym (get_first c.loop-runs.runs.now c.run-item.result c.in-len1-up.len_at_least c.run-item.is c.loop-runs.place c.if-place-run.true)
    ∙ c.loop-runs.invariant

pub loop-runs-preserved : goal.loop-runs-preserved
loop-runs-preserved c =
    get_behind c.loop-runs.runs.now c.run-item.result c.in-len1-up.len_at_least c.run-item.is c.loop-runs.place c.if-place-run.false
    ∙ c.loop-runs.invariant

pub returns : goal.returns
returns c =
    sym (ap (λ qubits. slice_get qubits c.loop-runs.place) (no_qubits c.loop-runs.runs.now c.in_default.len_below))
    ∙ c.loop-runs.invariant
