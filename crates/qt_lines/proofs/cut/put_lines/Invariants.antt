use Rattle.std.proofs.Common.{◌≡◌, ℕ, List, ◌++◌, length}
use Rattle.qt_lines.specs.Puts.{seen, Whole}
use Rattle.qt_lines.proofs.cut.put_lines.Given as goal

-- what was put is the text but for the rest
abbrev pub invariant-loop-rest : goal.invariant-loop-rest
invariant-loop-rest g l =
    (done : List ℕ) × (l.text ≡ done ++ l.rest) × Whole (seen g.O.Sink.bytes g.O.Sink.faults g.O.Sink.wants l.fn.out) (seen g.O.Sink.bytes g.O.Sink.faults g.O.Sink.wants l.out) done

abbrev pub decreases-loop-rest : goal.decreases-loop-rest
decreases-loop-rest g l = length l.rest
