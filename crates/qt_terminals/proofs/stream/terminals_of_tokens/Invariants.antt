use Rattle.std.proofs.Common.{◌≡◌, map, take}
use Rattle.qt_terminals.specs.Terminals as spec
use Rattle.qt_terminals.proofs.stream.terminals_of_tokens.Given as goal

abbrev pub invariant-loop-token : goal.invariant-loop-token
invariant-loop-token l = l.terminals.items ≡ map (spec.terminal_at l.text) (take l.token-index l.tokens)
