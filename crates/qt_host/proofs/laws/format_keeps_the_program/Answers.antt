use Rattle.qt_host.proofs.Formatting as proof
use Rattle.qt_host.proofs.laws.format_keeps_the_program.Goals as goal

pub returns : goal.returns
returns c = proof.keeps_the_program
