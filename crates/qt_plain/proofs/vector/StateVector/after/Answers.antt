use Rattle.std.proofs.Common.{sym, ap, subst, ◌∙◌}
use Rattle.qt_ring.specs.Places.{AreQubits}
use Rattle.qt_ring.specs.State.{State, applied}
use Rattle.qt_plain.specs.Vectors.{state_of}
use Rattle.qt_plain.specs.Plain.{IsPlain}
use Rattle.qt_plain.specs.Operators.{operator_of, qubits_of, product_with, Suits}
use Rattle.qt_plain.proofs.Plain.{suits, after_is, after_plain}
use Rattle.qt_plain.proofs.vector.StateVector.after.Goals as goal

pub product-requires : goal.product-requires
product-requires c =
    subst (Suits c.args.gate c.self.inside.qubits) (sym c.as_slice.ensures.value)
    (suits c.args.gate (state_of c.self.inside) c.self.invariant (subst (λ (s : State). AreQubits s.qubits (qubits_of c.args.gate)) (sym c.self.view_is) c.requires.qubits_in))

pub returns : goal.returns
returns c =
    after_is c.args.gate (state_of c.self.inside) _ _ (c.in_ok-product.ensures ∙ ap (product_with c.args.gate c.self.inside.qubits) c.as_slice.ensures.value) c.halvings.ensures.value
    ∙ ap (applied (operator_of c.args.gate) (qubits_of c.args.gate)) c.self.view_is

pub invariant_of-result : goal.invariant_of-result
invariant_of-result c =
    subst IsPlain (sym (returns c))
    (after_plain c.args.gate c.args.self.now (subst IsPlain c.self.view_is c.self.invariant) c.requires.qubits_in c.requires.room)
