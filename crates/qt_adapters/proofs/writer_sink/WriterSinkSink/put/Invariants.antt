use Rattle.std.proofs.Common.{◌≡◌, ℕ, List, ◌++◌, length}
use Rattle.std.specs.Io.KnownBytes.{Appends}
use Rattle.qt_adapters.proofs.writer_sink.WriterSinkSink.put.Given as goal

abbrev pub decreases-loop-rest : goal.decreases-loop-rest
decreases-loop-rest g l = length l.rest

-- nothing has failed so far, and the writer took what isn't left
abbrev pub invariant-loop-rest : goal.invariant-loop-rest
invariant-loop-rest g l = record {
  faults : l.self.faults ≡ l.fn.self.faults;
  done : List ℕ;
  parts : done ++ l.rest ≡ l.piece;
  written : Appends l.fn.self.held l.self.held done;
}
