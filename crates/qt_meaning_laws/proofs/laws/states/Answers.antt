use Rattle.qt_meaning_laws.proofs.Maps.{maps_go_through}
use Rattle.qt_meaning_laws.proofs.Factors.{factors_go_through}
use Rattle.qt_meaning_laws.proofs.laws.states.Goals as goal

pub returns-clause-maps : goal.returns-clause-maps
returns-clause-maps c = maps_go_through

pub returns-clause-factors : goal.returns-clause-factors
returns-clause-factors c = factors_go_through
