use Rattle.std.proofs.Common.{subst, sym}
use Rattle.qt_includes.specs.Steps.{ComesTo}
use Rattle.qt_includes.proofs.Placed.{refused_comes}
use Rattle.qt_includes.proofs.included.fetch_program.Goals.{in-Ok, in-Err}
use Rattle.qt_includes.proofs.included.fetch_program.Goals as goal

pub returns-clause-program : goal.returns-clause-program
returns-clause-program g c = λ texts told.
    elim c.match-ended.branch [
      | in-Ok w ↦ subst (ComesTo texts c.args.name.now c.gather-ended.new.gathered.names) (sym w.program-is) (w.in-Ok.ensures.gathered texts told)
      | in-Err w ↦ subst (ComesTo texts c.args.name.now c.gather-ended.new.gathered.names) (sym w.program-is) (refused_comes texts c.args.name.now c.gather-ended.new.gathered w.in-Err.refusal (w.in-Err.ensures.gathered texts told))
    ]
