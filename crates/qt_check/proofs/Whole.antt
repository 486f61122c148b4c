-- A program in the steps of the check: its versions, its gates, and then the whole.
use Rattle.std.proofs.Common.{◌≡◌, List, [], Ok, Err, refl}
use Rattle.qt_tree.specs.declared.label.Setting.{Setting}
use Rattle.qt_tree.specs.declared.program.Item.{Item}
use Rattle.qt_tree.specs.declared.program.Program.{Program}
use Rattle.qt_gate_calls.specs.declared.body.GateBody.{GateBody}
use Rattle.qt_typed.specs.declared.program.Typed.{Typed}
use Rattle.qt_typed.specs.declared.statement.TypedStatement.{TypedStatement}
use Rattle.qt_typing.specs.declared.state.State.{State}
use Rattle.qt_typing.specs.Checked.{Checked, and_then}
use Rattle.qt_typing.specs.Programs.{typing_of, versions_fit, items_from, beginning}
use Rattle.qt_check.specs.Steps.{ended, typed_after}

-- what is done with the gates of the first pass alone
gates_alone : (first : Checked (List TypedStatement × State)) (rest : List GateBody → Checked Typed)
    → and_then first (λ r. rest r.1.gates) ≡ and_then (and_then first (λ r. Ok r.1.gates)) rest
gates_alone (Ok r) rest = refl
gates_alone (Err e) rest = refl

pub whole : (settings : List Setting) (program : Program) → typing_of settings program
    ≡ and_then (versions_fit program.versions) (λ _. and_then (and_then (items_from [] program.items (beginning [])) (λ r. Ok r.1.gates))
    (λ gates. typed_after settings program.items program.end (beginning gates)))
unfolding typing_of typed_after ended
whole settings program = by_versions (versions_fit program.versions)
  where
    by_versions : (v : Checked (Unit {0})) → and_then v (λ _. and_then (items_from [] program.items (beginning [])) (λ first.
        typed_after settings program.items program.end (beginning first.1.gates)))
        ≡ and_then v (λ _. and_then (and_then (items_from [] program.items (beginning [])) (λ r. Ok r.1.gates))
        (λ gates. typed_after settings program.items program.end (beginning gates)))
    by_versions (Ok done) =
        gates_alone (items_from [] program.items (beginning [])) (λ gates. typed_after settings program.items program.end (beginning gates))
    by_versions (Err e) = refl
