use Rattle.qt_code.proofs.Ways.{jumps_go_on}
use Rattle.qt_code.proofs.laws.jumps.Goals as goal

pub returns : goal.returns
returns c = jumps_go_on
