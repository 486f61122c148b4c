use Rattle.std.proofs.Common.{◌++◌, ◌-◌, ◌+◌, ◌*◌, ◌<◌, sym, ap, refl, ◌∙◌, append-nil, append_assoc, arith}
use Rattle.qt_registers.specs.Registers.{stepped}
use Rattle.qt_registers.specs.Runs.{qubits_of, run_qubits}
use Rattle.qt_registers.proofs.Runs.{stepped_empty}
use Rattle.qt_registers.proofs.Stepping.{behind, last_behind, length-behind, no_qubits, stepped-first, stepped_whole}
use Rattle.qt_registers.proofs.register.stepped_runs.Goals as goal

pub loop-runs-init : goal.loop-runs-init
unfolding qubits_of
loop-runs-init c = (rw c.new-found.ensures.items refl, c.requires.within, c.requires.room)

pub returns-then-reached-count : goal.returns-then-reached-count
returns-then-reached-count c =
    let e = c.reached-reached.ensures in
    let whole = stepped_whole c.loop-runs.runs.now c.run-item.result c.in-len1-up.len_at_least c.run-item.is c.loop-runs.start c.args.step c.loop-runs.count c.reached-reached.result e.few e.inside e.outside c.if-reached-count.true in
    c.in_ok-push_stepped.ensures ∙ ap (λ l. qubits_of c.loop-runs.found.items ++ l) (sym whole) ∙ c.loop-runs.invariant.0

pub loop-runs-preserved : goal.loop-runs-preserved
loop-runs-preserved c =
    let e = c.reached-reached.ensures in
    let runs = c.loop-runs.runs.now in
    let run = c.run-item.result in
    let start = c.loop-runs.start in
    let step = c.args.step in
    let count = c.loop-runs.count in
    let here = c.reached-reached.result in
    let more : here < count = omega (arith, e.few) in
    let found = qubits_of c.loop-runs.found.items in
    let next = stepped (qubits_of (behind runs)) (start + here * step - run.count) step (count - here) in
    let first = stepped-first runs run c.in-len1-up.len_at_least c.run-item.is start step count here e.few e.inside e.outside in
    let longer = length-behind runs run c.in-len1-up.len_at_least c.run-item.is in (
      ap (λ l. l ++ next) c.in_ok-push_stepped.ensures
          ∙ append_assoc found (stepped (run_qubits run) start step here) next
          ∙ ap (λ l. found ++ l) (sym first)
          ∙ c.loop-runs.invariant.0,
      λ _. last_behind runs run c.in-len1-up.len_at_least c.run-item.is start step count here e.few e.inside e.outside c.loop-runs.invariant.1 more,
      omega (arith, longer, c.loop-runs.invariant.2),
    )

pub returns : goal.returns
returns c =
    let found = qubits_of c.loop-runs.found.items in
    let qubits = qubits_of c.loop-runs.runs.now in
    sym (append-nil found)
    ∙ ap (λ l. found ++ l) (sym (stepped_empty qubits c.loop-runs.start c.args.step c.loop-runs.count (no_qubits c.loop-runs.runs.now c.in_default.len_below) c.loop-runs.invariant.1))
    ∙ c.loop-runs.invariant.0
