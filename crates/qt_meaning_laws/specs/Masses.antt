-- Masses go through well formed programs (OpenQASM 3.0 live specification, "Quantum measurement and reset" and "Gates": gates are unitary;
-- Cross et al. 2022). From any point, all masses of the leaves are together the mass of the point's state.
use Rattle.std.specs.Prelude.{◌≡◌}
use Rattle.qt_ring.specs.State.{HasAllEntries}
use Rattle.qt_mass.specs.Mass.{mass}
use Rattle.qt_typed.specs.declared.program.Typed.{Typed}
use Rattle.qt_meaning.specs.Points.{Point}
use Rattle.qt_meaning.specs.Distribution.{run_of}
use Rattle.qt_meaning.specs.WellFormed.{IsWellFormed}
use Rattle.qt_meaning.specs.Laws.{total}

abbrev pub MassGoesThrough : Typed → Type 0
MassGoesThrough typed =
    IsWellFormed typed → (p : Point) → p.state.qubits ≡ typed.qubits → HasAllEntries p.state → total (run_of typed p) ≡ mass p.state
