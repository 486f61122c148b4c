use Rattle.qt_flat_gate_calls.proofs.Broadcasts.{broadcasts_land}
use Rattle.qt_flat_gate_calls.proofs.Calls.{gate_calls_land}
use Rattle.qt_flat_gate_calls.proofs.Wherever.{broadcast_lengths_are_one, lengths_are_one}
use Rattle.qt_flat_gate_calls.proofs.laws.gate_calls.Goals as goal

pub returns-clause-calls : goal.returns-clause-calls
returns-clause-calls c = gate_calls_land

pub returns-clause-broadcasts : goal.returns-clause-broadcasts
returns-clause-broadcasts c = broadcasts_land

pub returns-clause-lengths : goal.returns-clause-lengths
returns-clause-lengths c = lengths_are_one

pub returns-clause-broadcast_lengths : goal.returns-clause-broadcast_lengths
returns-clause-broadcast_lengths c = broadcast_lengths_are_one
