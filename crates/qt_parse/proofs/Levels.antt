-- What a form with a name reads within one level more: its rule.
use Rattle.std.proofs.Common.{◌≡◌, ◌≢◌, ℕ, ◌-◌, List, [], ◌∷◌, Ok}
use Rattle.qt_terminals.specs.Terminals.{PlacedTerminal}
use Rattle.qt_grammar.specs.Outcome.{and_then}
use Rattle.qt_expr.proofs.Steps.{deeper}
use Rattle.qt_parse.specs.Parser.{read_block, read_statements, read_single, read_statement}

pub block_is : (tokens : List PlacedTerminal) (levels at : ℕ) → levels ≢ 0 → read_block tokens levels at ≡ read_statements tokens (levels - 1) at
unfolding read_block read_statements
block_is tokens levels at some = deeper (λ n. read_block tokens n at) levels some

pub single_is : (tokens : List PlacedTerminal) (levels at : ℕ) → levels ≢ 0
    → read_single tokens levels at ≡ and_then (read_statement tokens (levels - 1) at) (λ x j. Ok (x ∷ [], j))
unfolding read_single read_statement
single_is tokens levels at some = deeper (λ n. read_single tokens n at) levels some
