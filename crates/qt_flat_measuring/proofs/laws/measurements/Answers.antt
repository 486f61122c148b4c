use Rattle.qt_flat_measuring.proofs.Choices.{measurements_land, resets_land_all, slot_measurements_land, target_measurements_land}
use Rattle.qt_flat_measuring.proofs.laws.measurements.Goals as goal

pub returns-clause-resets : goal.returns-clause-resets
returns-clause-resets c = resets_land_all

pub returns-clause-dropped : goal.returns-clause-dropped
returns-clause-dropped c = measurements_land

pub returns-clause-stored : goal.returns-clause-stored
returns-clause-stored c = slot_measurements_land

pub returns-clause-targets : goal.returns-clause-targets
returns-clause-targets c = target_measurements_land
