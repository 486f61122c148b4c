-- What a form with a name reads within one level more: its rule.
use Rattle.std.proofs.Common.{◌≡◌, ◌≢◌, ℕ, ◌-◌, List}
use Rattle.qt_terminals.specs.Terminals.{PlacedTerminal}
use Rattle.qt_expr.proofs.Steps.{deeper}
use Rattle.qt_items.specs.Parser.{read_entries, read_entry_list, read_in_array, read_element_and_lengths, read_gate_block, read_gate_lines, read_parameters, read_parameter_list}

pub entries_is : (tokens : List PlacedTerminal) (levels at : ℕ) → levels ≢ 0 → read_entries tokens levels at ≡ read_entry_list tokens (levels - 1) at
unfolding read_entries read_entry_list
entries_is tokens levels at some = deeper (λ n. read_entries tokens n at) levels some

pub gate_block_is : (tokens : List PlacedTerminal) (levels at : ℕ) → levels ≢ 0 → read_gate_block tokens levels at ≡ read_gate_lines tokens (levels - 1) at
unfolding read_gate_block read_gate_lines
gate_block_is tokens levels at some = deeper (λ n. read_gate_block tokens n at) levels some

pub parameters_is : (tokens : List PlacedTerminal) (levels at : ℕ) → levels ≢ 0 → read_parameters tokens levels at ≡ read_parameter_list tokens (levels - 1) at
unfolding read_parameters read_parameter_list
parameters_is tokens levels at some = deeper (λ n. read_parameters tokens n at) levels some

pub in_array_is : (tokens : List PlacedTerminal) (levels at : ℕ) → levels ≢ 0 → read_in_array tokens levels at ≡ read_element_and_lengths tokens (levels - 1) at
unfolding read_in_array read_element_and_lengths
in_array_is tokens levels at some = deeper (λ n. read_in_array tokens n at) levels some
