use Rattle.qt_flat_storing.proofs.Storing.{arrays_store}
use Rattle.qt_flat_storing.proofs.laws.arrays.Goals as goal

pub returns : goal.returns
returns c = arrays_store
