use Rattle.std.proofs.Common.{List, sym, subst, ◌∙◌}
use Rattle.std.proofs.lemmas.List.{with_items_is}
use Rattle.qt_ring.specs.declared.omega.Omega.{Omega}
use Rattle.qt_ring.specs.State.{State}
use Rattle.qt_ring.specs.Multiples.{IsReduced}
use Rattle.qt_vector.specs.States.{IsVector}
use Rattle.qt_vector.specs.Vectors.{state_of}
use Rattle.qt_kernel.specs.Primitives.{product_of, IsPrim}
use Rattle.qt_kernel.specs.Products.{state_with, phase_prim}
use Rattle.qt_kernel.proofs.Reducing.{phase_written}
use Rattle.qt_kernel.proofs.kernel.apply_phase.Goals as goal

pub returns-clause-reduced : goal.returns-clause-reduced
returns-clause-reduced c =
    subst (λ (es : List Omega). IsReduced (product_of (phase_prim c.args.controls c.args.angle) c.args.state.now) (state_with c.state.inside.qubits es c.state.inside.halvings))
    (sym (with_items_is c.state.inside.entries c.add_phase.new.entries (c.add_phase.auto.entries ∙ c.as_mut_slice.ensures.len)))
    (subst (λ (s : State). IsReduced (product_of (phase_prim c.args.controls c.args.angle) s) (state_with c.state.inside.qubits c.add_phase.new.entries c.state.inside.halvings)) c.state.view_is
    (phase_written c.args.controls c.args.angle (state_of c.state.inside) c.as_mut_slice.result.now c.add_phase.new.entries c.state.invariant
    (subst (λ (s : State). IsPrim s.qubits (phase_prim c.args.controls c.args.angle)) (sym c.state.view_is) c.requires)
    c.as_mut_slice.ensures.value c.add_phase.auto.entries c.add_phase.ensures).0)

pub invariant_of-state : goal.invariant_of-state
invariant_of-state c =
    subst (λ (es : List Omega). IsVector (state_with c.state.inside.qubits es c.state.inside.halvings))
    (sym (with_items_is c.state.inside.entries c.add_phase.new.entries (c.add_phase.auto.entries ∙ c.as_mut_slice.ensures.len)))
    (phase_written c.args.controls c.args.angle (state_of c.state.inside) c.as_mut_slice.result.now c.add_phase.new.entries c.state.invariant
    (subst (λ (s : State). IsPrim s.qubits (phase_prim c.args.controls c.args.angle)) (sym c.state.view_is) c.requires)
    c.as_mut_slice.ensures.value c.add_phase.auto.entries c.add_phase.ensures).1

pub returns-clause-vector : goal.returns-clause-vector
returns-clause-vector c = invariant_of-state c
