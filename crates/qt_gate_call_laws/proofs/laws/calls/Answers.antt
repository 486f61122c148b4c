use Rattle.qt_gate_call_laws.proofs.Multiplied.{calls_are_primitives, calls_are_expansions}
use Rattle.qt_gate_call_laws.proofs.laws.calls.Goals as goal

pub returns-clause-primitives : goal.returns-clause-primitives
returns-clause-primitives c = calls_are_primitives

pub returns-clause-expansions : goal.returns-clause-expansions
returns-clause-expansions c = calls_are_expansions
