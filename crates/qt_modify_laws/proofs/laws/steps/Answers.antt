use Rattle.qt_modify_laws.proofs.Runs.{runs_hold, runs_fault, runs_give_primitives}
use Rattle.qt_modify_laws.proofs.laws.steps.Goals as goal

pub returns-clause-cells : goal.returns-clause-cells
returns-clause-cells c = runs_hold

pub returns-clause-faults : goal.returns-clause-faults
returns-clause-faults c = runs_fault

pub returns-clause-primitives : goal.returns-clause-primitives
returns-clause-primitives c = runs_give_primitives
