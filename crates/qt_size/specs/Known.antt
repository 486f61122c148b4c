-- The sizes of subroutines in a list by their numbers, up to a stop at 4,294,967,295 (the size is this profile's; OpenQASM 3.0 live
-- specification, "Subroutines"; Cross et al. 2022).
use Rattle.std.specs.Prelude.{◌≡◌, ℕ, List, get_or}
use Rattle.qt_gate_calls.specs.Stopped.{stopped}
use Rattle.qt_typed.specs.declared.program.TypedSubroutine.{TypedSubroutine}
use Rattle.qt_typed.specs.Choices.{Counts}
use Rattle.qt_typed.specs.Size.{sizes_from}

abbrev pub sizes_in : List ℕ → Counts
sizes_in known i = get_or known i 0

-- the list has what these subroutines come to
abbrev pub AreKnown : List TypedSubroutine → List ℕ → Type 0
AreKnown subroutines known = (i : ℕ) → sizes_in known i ≡ stopped (sizes_from 0 subroutines (λ i. 0) i)
