use Rattle.std.proofs.Common.{◌≡◌, map, take}
use Rattle.qt_gates.specs.Forms.{body_of}
use Rattle.qt_gates.proofs.table.bodies.Given as goal

abbrev pub invariant-loop-form : goal.invariant-loop-form
invariant-loop-form l = l.bodies ≡ map body_of (take l.form-index l.forms)
