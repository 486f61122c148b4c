use Rattle.qt_meaning_laws.proofs.Fuel.{fuel_suffices}
use Rattle.qt_meaning_laws.proofs.laws.fuel.Goals as goal

pub returns : goal.returns
returns c = fuel_suffices
