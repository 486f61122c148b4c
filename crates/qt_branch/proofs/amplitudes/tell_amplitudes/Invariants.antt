use Rattle.std.proofs.Common.{◌≡◌, fold, take}
use Rattle.std.specs.List.{flat_map}
use Rattle.qt_branch.specs.Amplitudes.{told_amplitude}
use Rattle.qt_branch.proofs.amplitudes.tell_amplitudes.Given as goal

abbrev pub invariant-loop-index : goal.invariant-loop-index
invariant-loop-index g l = l.state ≡ fold g.H.Hasher.write l.initial.state (flat_map told_amplitude (take l.index l.amplitudes))
