use Rattle.std.proofs.Common.{◌≡◌, length, map}
use Rattle.std.specs.List.{zip}
use Rattle.qt_terminals.specs.Alphabet as spec
use Rattle.qt_terminals.proofs.spelling.terminal_in.Given as goal

abbrev pub invariant-table : goal.invariant-table
invariant-table l =
    spec.terminal_in (zip (map (λ row. row.now) l.spellings) l.terminals) l.other l.spelling
    ≡ spec.terminal_in (zip (map (λ row. row.now) l.initial.spellings) l.initial.terminals) l.other l.spelling

abbrev pub decreases-table : goal.decreases-table
decreases-table l = length l.spellings
