use Rattle.qt_round_trip.proofs.Again as again
use Rattle.qt_round_trip.proofs.laws.read_without_refusal.Goals as goal

pub returns-clause-tokens : goal.returns-clause-tokens
returns-clause-tokens c = again.lexes_again

pub returns-clause-program : goal.returns-clause-program
returns-clause-program c = again.parses_again
