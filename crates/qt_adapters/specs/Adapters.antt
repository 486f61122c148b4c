-- What contracts see of the adapters: their counts, and what a writer tells that it holds.
use Rattle.std.specs.Prelude.{ℕ, ◌≤◌, List, Option, Result, Ok, Err, length, take}
use Rattle.std.specs.Io.KnownBytes.{Appends}
use Rattle.qt_outside.specs.declared.faults.PutFault.{PutFault}

-- a shelf of files: the faults and the failed name
pub record FileShelfState : Type 0 where
  pub faults : ℕ
  pub failed : List ℕ

-- a sink over a writer: the faults, and the bytes that the writer holds, where it tells them
pub record WriterSinkState : Type 0 where
  pub faults : ℕ
  pub held : Option (List ℕ)

-- what a put leaves of the bytes of the writer, where it tells them: they grew by the piece, or by a prefix of a piece that was refused
abbrev pub Written : Option (List ℕ) → Option (List ℕ) → List ℕ → Result (Unit {0}) PutFault → Type 0
Written old new piece (Ok _) = Appends old new piece
Written old new piece (Err _) = (taken : ℕ) × (taken ≤ length piece) × Appends old new (take taken piece)
