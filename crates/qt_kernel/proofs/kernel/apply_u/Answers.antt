use Rattle.std.proofs.Common.{List, sym, ap, subst, ◌∙◌, length}
use Rattle.std.proofs.lemmas.List.{with_items_is}
use Rattle.qt_ring.specs.declared.omega.Omega.{Omega}
use Rattle.qt_ring.specs.Multiples.{IsReduced}
use Rattle.qt_vector.specs.States.{IsVector}
use Rattle.qt_vector.specs.Vectors.{state_of}
use Rattle.qt_kernel.specs.Products.{state_with, u_product}
use Rattle.qt_kernel.proofs.Reducing.{of_parts, refused_of_parts, vector_again, u_qubits, on_err}
use Rattle.qt_kernel.proofs.kernel.apply_u.Goals as goal

pub returns-in_err-state-inside-clause-fault : goal.returns-in_err-state-inside-clause-fault
returns-in_err-state-inside-clause-fault c =
    on_err c.from_residual.result
    (refused_of_parts (u_product c.args.gate) c.state.inside.qubits c.state.inside.halvings _ _ c.args.state.now c.as_mut_slice.ensures.value c.state.view_is c.in_err-state-inside.ensures.fault)

pub invariant_of-state-2 : goal.invariant_of-state-2
invariant_of-state-2 c =
    subst (λ (es : List Omega). IsVector (state_with c.state.inside.qubits es c.in_ok-state-inside.field-0))
    (sym (with_items_is c.state.inside.entries c.multiply.new.entries (c.multiply.auto.entries ∙ c.as_mut_slice.ensures.len)))
    (vector_again (state_of c.state.inside) (u_product c.args.gate (state_with c.state.inside.qubits c.as_mut_slice.result.now c.state.inside.halvings)) _
    c.state.invariant
    (u_qubits c.args.gate (state_with c.state.inside.qubits c.as_mut_slice.result.now c.state.inside.halvings))
    (c.multiply.auto.entries ∙ ap (length {A = Omega}) c.as_mut_slice.ensures.value)
    c.in_ok-state-inside.ensures.reduced c.in_ok-state-inside.ensures.bounded)

pub returns-clause-ok : goal.returns-clause-ok
returns-clause-ok c =
    subst (λ (es : List Omega). IsReduced (u_product c.args.gate c.args.state.now) (state_with c.state.inside.qubits es c.in_ok-state-inside.field-0))
    (sym (with_items_is c.state.inside.entries c.multiply.new.entries (c.multiply.auto.entries ∙ c.as_mut_slice.ensures.len)))
    (of_parts (u_product c.args.gate) c.state.inside.qubits c.state.inside.halvings _ _ c.args.state.now _ c.as_mut_slice.ensures.value c.state.view_is c.in_ok-state-inside.ensures.reduced)

pub returns-clause-vector : goal.returns-clause-vector
returns-clause-vector c = invariant_of-state-2 c
