use Rattle.qt_mass.proofs.Masses.{mass_applied_h, mass_applied_x, mass_applied_t, mass_applied_cx}
use Rattle.qt_mass.proofs.laws.gates.Goals as goal

pub returns-clause-h : goal.returns-clause-h
returns-clause-h c = mass_applied_h

pub returns-clause-x : goal.returns-clause-x
returns-clause-x c = mass_applied_x

pub returns-clause-t : goal.returns-clause-t
returns-clause-t c = mass_applied_t

pub returns-clause-cx : goal.returns-clause-cx
returns-clause-cx c = mass_applied_cx
