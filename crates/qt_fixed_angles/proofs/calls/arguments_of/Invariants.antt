use Rattle.std.proofs.Common.{◌≡◌, take}
use Rattle.qt_fixed_angles.specs.Reached.{arguments_of}
use Rattle.qt_fixed_angles.proofs.calls.arguments_of.Given as goal

abbrev pub invariant-loop-phase : goal.invariant-loop-phase
invariant-loop-phase l = l.arguments ≡ arguments_of (take l.phase-index l.phases)
