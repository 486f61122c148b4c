-- A declared gate in the scope of its own, step by step.
use Rattle.std.specs.Prelude.{ℕ, Bool, []}
use Rattle.qt_gate_calls.specs.declared.body.GateBody.{GateBody}
use Rattle.qt_tree.specs.declared.program.GateItem.{GateItem}
use Rattle.qt_typing.specs.Environment.{Typing, ◌>>=◌, pure, seen, leave}
use Rattle.qt_typing.specs.Declarations.{new_name}
use Rattle.qt_typing.specs.GateItems.{body_from, body_with, declare_angles, declare_gate, declare_wires, gate_body_of, parameters_of}

abbrev pub body_and_end : Bool → ℕ → GateItem → Typing GateBody
body_and_end included known gate =
    seen (body_from included [] gate.body) >>= (λ calls. leave known >>= (λ _. pure (body_with gate calls)))

abbrev pub wires_and_body : Bool → ℕ → GateItem → Typing GateBody
wires_and_body included known gate = declare_wires gate.place 0 gate.qubits >>= (λ _. body_and_end included known gate)

unfoldable pub angles_and_body : Bool → ℕ → GateItem → Typing GateBody
angles_and_body included known gate =
    declare_angles gate.place 0 (parameters_of gate) >>= (λ _. wires_and_body included known gate)

abbrev pub body_and_name : GateItem → Typing (Unit {0})
body_and_name gate = gate_body_of gate >>= declare_gate gate.place gate.name

-- a gate judged against what stands before it: E9 of its name, and then its body. It isn't declared
abbrev pub gate_checked : GateItem → Typing GateBody
gate_checked gate = seen (new_name gate.place gate.name) >>= (λ _. gate_body_of gate)
