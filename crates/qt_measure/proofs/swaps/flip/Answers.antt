use Rattle.std.proofs.Common.{◌≡◌, ◌<◌, length, sym, ap, subst, ◌∙◌}
use Rattle.std.proofs.lemmas.List.{with_items_is}
use Rattle.qt_ring.specs.State.{State, flip}
use Rattle.qt_vector.specs.States.{IsVector}
use Rattle.qt_vector.specs.Vectors.{state_of}
use Rattle.qt_measure.proofs.Swapped.{flip_is_vector, flip_by_parts, unhalved}
use Rattle.qt_measure.proofs.swaps.flip.Goals as goal

pub returns : goal.returns
returns c =
    let v = c.state.inside in
    let s : State = state_of v in
    let q = c.args.qubit in
    let written = c.swap_twins.ensures ∙ ap (λ xs. (flip q (unhalved v.qubits xs)).entries) c.as_mut_slice.ensures.value in
    let long : length c.swap_twins.new.entries ≡ v.entries.len = c.swap_twins.auto.entries ∙ c.as_mut_slice.ensures.len in
    flip_by_parts q s _ (with_items_is v.entries c.swap_twins.new.entries long ∙ written) ∙ ap (flip q) c.state.view_is

pub invariant_of-state : goal.invariant_of-state
invariant_of-state c =
    let below : c.args.qubit < (state_of c.state.inside).qubits = subst (λ (s : State). c.args.qubit < s.qubits) (sym c.state.view_is) c.requires in
    subst IsVector (sym (returns c ∙ ap (flip c.args.qubit) (sym c.state.view_is))) (flip_is_vector c.args.qubit (state_of c.state.inside) below c.state.invariant)
