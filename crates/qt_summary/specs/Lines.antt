-- The line that tells the numbers of a program.
use Rattle.std.specs.Prelude.{ℕ, List, [], ◌∷◌, ◌++◌, codes}
use Rattle.std.specs.Fmt.{decimal}
use Rattle.qt_summary.specs.declared.summary.Summary.{Summary}

abbrev pub summary_line : Summary → List ℕ
summary_line s = codes "ok qubits " ++ decimal s.qubits ++ codes " slots " ++ decimal s.slots ++ codes " size " ++ decimal s.size ++ 10 ∷ []
