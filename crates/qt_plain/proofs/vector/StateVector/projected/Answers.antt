use Rattle.std.proofs.Common.{sym, ap, subst, ◌∙◌, List}
use Rattle.qt_ring.specs.declared.omega.Omega.{Omega}
use Rattle.qt_ring.specs.State.{State, project}
use Rattle.qt_plain.specs.Vectors.{state_of}
use Rattle.qt_plain.specs.Plain.{IsPlain}
use Rattle.qt_plain.proofs.Plain.{projected_is, project_plain}
use Rattle.qt_plain.proofs.vector.StateVector.projected.Goals as goal

pub returns : goal.returns
returns c =
    projected_is c.args.qubit c.args.outcome (state_of c.self.inside) _
    (c.in_ok-projected.ensures ∙ ap (λ (es : List Omega). let s : State = record { qubits = c.self.inside.qubits; entries = es; halvings = 0 } in (project c.args.qubit c.args.outcome s).entries) c.as_slice.ensures.value)
    ∙ ap (project c.args.qubit c.args.outcome) c.self.view_is

pub invariant_of-result : goal.invariant_of-result
invariant_of-result c = subst IsPlain (sym (returns c)) (project_plain c.args.qubit c.args.outcome c.args.self.now c.requires (subst IsPlain c.self.view_is c.self.invariant))
