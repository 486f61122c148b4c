use Rattle.std.proofs.Common.{◌≡◌, ◌≤◌, ◌++◌, drop}
use Rattle.qt_terminals.specs.Found.{counts_behind}
use Rattle.qt_terminals.proofs.stream.counts_of.Given as goal

abbrev pub invariant-loop-terminal : goal.invariant-loop-terminal
invariant-loop-terminal l = record {
  small : l.count ≤ l.terminal-index;
  rest : l.counts.items ++ counts_behind l.count (drop l.terminal-index l.terminals) ≡ counts_behind 0 l.terminals;
}
