-- The standard gate that has a name (OpenQASM 3.0 live specification, "Standard library"; Cross et al. 2022).
use Rattle.std.specs.Prelude.{ℕ, ◌+◌, if◌then◌else◌, List, [], ◌∷◌, map, Option, Some, None, bytes_eq}
use Rattle.qt_gate_calls.specs.Standard as table
use Rattle.qt_gates.specs.declared.named.StandardGate.{StandardGate}

-- a row: a gate's name, and how many parameters and qubits it has
abbrev pub Row : Type 0
Row = List ℕ × ℕ × ℕ

-- the first row of that name, where the rows are numbered from a number on
abbrev pub gate_in : ℕ → List Row → List ℕ → Option StandardGate
gate_in number [] name = None
gate_in number ((row_name, parameters, qubits) ∷ rows) name =
    if bytes_eq name row_name then Some (record { number = number; parameters = parameters; qubits = qubits })
    else gate_in (number + 1) rows name

-- the standard gate of that name, if there is one
abbrev pub standard_named : List ℕ → Option StandardGate
standard_named name = gate_in 0 (map (λ (g : table.StandardGate). (g.name, g.body.parameters, g.body.qubits)) table.standard_gates) name
