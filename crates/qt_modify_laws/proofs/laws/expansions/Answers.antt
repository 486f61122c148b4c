use Rattle.qt_modify_laws.proofs.Expanding.{expansions_are_primitives, steps_are_needed, fixed_angles_are_known}
use Rattle.qt_modify_laws.proofs.Refusals.{refusal_is_first_wrong}
use Rattle.qt_modify_laws.proofs.Counted.{expansions_have_their_count}
use Rattle.qt_modify_laws.proofs.laws.expansions.Goals as goal

pub returns-clause-primitives : goal.returns-clause-primitives
returns-clause-primitives c = expansions_are_primitives

pub returns-clause-steps : goal.returns-clause-steps
returns-clause-steps c = steps_are_needed

pub returns-clause-fixed : goal.returns-clause-fixed
returns-clause-fixed c = fixed_angles_are_known

pub returns-clause-refusal : goal.returns-clause-refusal
returns-clause-refusal c = refusal_is_first_wrong

pub returns-clause-count : goal.returns-clause-count
returns-clause-count c = expansions_have_their_count
