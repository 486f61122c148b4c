use Rattle.std.proofs.Common.{◌≡◌, length, IsTrue, Ok}
use Rattle.std.specs.List.{list_all}
use Rattle.qt_code.specs.Cells.{qubits_of}
use Rattle.qt_code_rules.specs.Sizes.{has_reference}
use Rattle.qt_meaning.specs.Values.{and_then}
use Rattle.qt_machine.specs.Named.{with_qubits}
use Rattle.qt_machine.specs.Writes.{held}
use Rattle.qt_machine.proofs.qubits.Named.with_all.Given as goal

abbrev pub invariant-references : goal.invariant-references
invariant-references l =
    (and_then (qubits_of l.sizes.qubits l.references (held l.cells)) (λ qs. Ok (with_qubits qs l.named))
    ≡ and_then (qubits_of l.fn.sizes.qubits l.fn.references (held l.fn.cells)) (λ qs. Ok (with_qubits qs l.fn.self)))
    × IsTrue (list_all (has_reference l.sizes) l.references)

abbrev pub decreases-references : goal.decreases-references
decreases-references l = length l.references
