-- How a register is kept: as runs of qubits, whose numbers have one step between them. Runs stand for the list of their qubits, those of one
-- run after those of the other.
use Rattle.std.specs.Prelude.{◌≡◌, ℕ, ◌+◌, ◌*◌, ◌<◌, List, [], ◌∷◌, ◌++◌, map}
use Rattle.qt_registers.specs.declared.fixed.FixedQubit.{FixedQubit}
use Rattle.qt_registers.specs.declared.run.Run.{Run}
use Rattle.qt_registers.specs.Origins.{qubit_of}
use Rattle.qt_registers.specs.Registers.{progression}

unfoldable pub run_qubits : Run → List FixedQubit
run_qubits run = map (qubit_of run.origin) (progression run.first run.step run.count)

unfoldable pub qubits_of : List Run → List FixedQubit
qubits_of [] = []
qubits_of (run ∷ runs) = run_qubits run ++ qubits_of runs

-- some qubit of the run has the number
abbrev pub HasNumber : Run → ℕ → Type 0
HasNumber run number = (place : ℕ) × (place < run.count) × (run.first + place * run.step ≡ number)

-- some number is in both runs
abbrev pub Meet : Run → Run → Type 0
Meet left right = (number : ℕ) × HasNumber left number × HasNumber right number
