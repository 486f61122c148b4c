use Rattle.std.proofs.Common.{◌∙◌}
use Rattle.qt_run.specs.Tree.{leaves_of}
use Rattle.qt_run.proofs.Chances.{total_of_distribution}
use Rattle.qt_run.proofs.Totals.{program_total}
use Rattle.qt_run.proofs.laws.total_is_one.Goals as goal

pub returns : goal.returns
returns c = λ chances d. total_of_distribution (leaves_of c.args.program.now) chances d ∙ program_total c.args.program.now c.requires
