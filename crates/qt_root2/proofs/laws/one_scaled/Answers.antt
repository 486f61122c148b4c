use Rattle.qt_root2.proofs.Scales.{scaled_is_one}
use Rattle.qt_root2.proofs.laws.one_scaled.Goals as goal

pub returns : goal.returns
returns c = scaled_is_one
