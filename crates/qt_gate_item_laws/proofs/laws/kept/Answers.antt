use Rattle.qt_gate_item_laws.proofs.Kept.{gate_keeps}
use Rattle.qt_gate_item_laws.proofs.laws.kept.Goals as goal

pub returns : goal.returns
returns c = gate_keeps
