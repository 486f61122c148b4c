-- A declared gate is what stands behind the begin of its scope.
use Rattle.std.proofs.Common.{◌≡◌, length, refl}
use Rattle.qt_tree.specs.declared.program.GateItem.{GateItem}
use Rattle.qt_typing.specs.declared.state.State.{State}
use Rattle.qt_typing.specs.Checked.{and_then}
use Rattle.qt_typing.specs.Environment.{enter}
use Rattle.qt_typing.specs.GateItems.{gate_inside}
use Rattle.qt_check_gate_items.specs.Steps.{angles_and_body}

pub inside_is : (gate : GateItem) (s : State) → gate_inside gate s
    ≡ and_then (enter s) (λ r. angles_and_body s.included (length s.names.consts) gate r.1)
unfolding gate_inside angles_and_body
inside_is gate s = refl
