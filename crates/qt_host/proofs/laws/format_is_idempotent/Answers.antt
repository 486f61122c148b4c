use Rattle.qt_host.proofs.Formatting as proof
use Rattle.qt_host.proofs.laws.format_is_idempotent.Goals as goal

pub returns : goal.returns
returns c = proof.formats_again c.args.output.now c.utf8.output
