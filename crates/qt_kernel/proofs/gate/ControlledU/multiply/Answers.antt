use Rattle.std.proofs.Common.{◌≡◌, ◌+◌, arith}
use Rattle.std.specs.Prelude.{◌⊎◌}
use mathlib.Core.Logic.{inl, inr}
use Rattle.qt_ring.specs.State.{State}
use Rattle.qt_ring.proofs.RingLaws.{one-times}
use Rattle.qt_kernel.specs.Gates.{entry_after, AllDivide}
use Rattle.qt_kernel.specs.Products.{state_with}
use Rattle.qt_kernel.proofs.Halves.{false_true}
use Rattle.qt_kernel.proofs.Reducing.{u_greatest, u_reduced, u_refused, u_bounded}
use Rattle.qt_kernel.proofs.gate.ControlledU.multiply.Goals.{then-loop-by-test+else-all_even, else-loop-by-test, then-left-gt-HALVINGS-via-then-left-gt-HALVINGS, then-left-gt-HALVINGS-via-else-left-gt-HALVINGS+then-not-all_small}
use Rattle.qt_kernel.proofs.gate.ControlledU.multiply.Goals as goal

pub loop-by-init : goal.loop-by-init
loop-by-init c = record { room = omega arith; whole = λ i l. (entry_after c.args.self c.args.entries.now i, one-times _) }

pub returns-then-left-gt-HALVINGS-clause-fault : goal.returns-then-left-gt-HALVINGS-clause-fault
returns-then-left-gt-HALVINGS-clause-fault c =
    let s : State = state_with c.args.qubits c.args.entries.now c.args.halvings in
    let r = c.loop-by.invariant.room in
    let stopped : (c.loop-by.by ≡ c.args.halvings + 1) ⊎ (AllDivide c.args.self (c.loop-by.by + 1) c.args.entries.now → ⊥) = elim c.loop-by-test.branch [
      | then-loop-by-test+else-all_even w ↦ inr (λ h. false_true w.all_even.result w.if-all_even.false (w.all_even.ensures.1 h))
      | else-loop-by-test w ↦ inl (omega arith)
    ] in
    u_refused c.args.self s c.loop-by.by c.requires.suits
    (u_greatest c.args.self s c.loop-by.by c.requires.suits r c.loop-by.invariant.whole stopped)
    (elim c.then-left-gt-HALVINGS.branch [
      | then-left-gt-HALVINGS-via-then-left-gt-HALVINGS w ↦ inl (omega arith)
      | then-left-gt-HALVINGS-via-else-left-gt-HALVINGS+then-not-all_small w ↦ inr (λ h. false_true w.all_small.result w.if-not-all_small.true (w.all_small.ensures.1 h))
    ])

pub returns-clause-reduced : goal.returns-clause-reduced
returns-clause-reduced c =
    let s : State = state_with c.args.qubits c.args.entries.now c.args.halvings in
    let r = c.loop-by.invariant.room in
    let stopped : (c.loop-by.by ≡ c.args.halvings + 1) ⊎ (AllDivide c.args.self (c.loop-by.by + 1) c.args.entries.now → ⊥) = elim c.loop-by-test.branch [
      | then-loop-by-test+else-all_even w ↦ inr (λ h. false_true w.all_even.result w.if-all_even.false (w.all_even.ensures.1 h))
      | else-loop-by-test w ↦ inl (omega arith)
    ] in
    u_reduced c.args.self s c.loop-by.by _ _ c.requires.suits
    (u_greatest c.args.self s c.loop-by.by c.requires.suits r c.loop-by.invariant.whole stopped)
    (omega arith) c.write.auto.entries c.write.ensures

pub returns-clause-bounded : goal.returns-clause-bounded
returns-clause-bounded c =
    u_bounded c.args.self (state_with c.args.qubits c.args.entries.now c.args.halvings) c.loop-by.by _ _
    c.if-left-gt-HALVINGS.false (c.all_small.ensures.0 c.if-not-all_small.false) c.write.auto.entries c.write.ensures
