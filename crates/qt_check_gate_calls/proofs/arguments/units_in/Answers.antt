use Rattle.qt_check_gate_calls.proofs.Units.{whole_units, shifted_few}
use Rattle.qt_check_gate_calls.proofs.arguments.units_in.Goals as goal

pub returns-clause-value : goal.returns-clause-value
returns-clause-value c = whole_units c.args.width c.args.bits c.requires.width c.requires.fits

pub returns-clause-few : goal.returns-clause-few
returns-clause-few c = shifted_few c.args.width c.args.bits c.requires.width c.requires.fits
