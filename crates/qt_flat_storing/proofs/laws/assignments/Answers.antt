use Rattle.qt_flat_storing.proofs.Storing.{assignments_store, updates_store}
use Rattle.qt_flat_storing.proofs.laws.assignments.Goals as goal

pub returns-clause-plain : goal.returns-clause-plain
returns-clause-plain c = assignments_store

pub returns-clause-compound : goal.returns-clause-compound
returns-clause-compound c = updates_store
