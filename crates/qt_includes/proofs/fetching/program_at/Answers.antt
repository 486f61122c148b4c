use Rattle.std.proofs.Common.{◌∙◌}
use Rattle.qt_outside.specs.Causes.{text_of}
use Rattle.qt_includes.proofs.Texts.{whole_program, no_program}
use Rattle.qt_includes.proofs.fetching.program_at.Goals as goal

pub returns-in-Ok-clause-program : goal.returns-in-Ok-clause-program
returns-in-Ok-clause-program g c = λ texts told.
    whole_program c.args.number (text_of texts c.args.name.now) c.as_slice.result.now c.in-Ok.program (c.as_slice.ensures.value ∙ c.in_ok-text.ensures.text texts told) c.in-Ok.ensures

pub returns-clause-program : goal.returns-clause-program
returns-clause-program g c = λ texts told.
    no_program texts c.args.name.now c.args.number c.as_slice.result.now (c.as_slice.ensures.value ∙ c.in_ok-text.ensures.text texts told) c.in-Err.reason c.told.result c.told.ensures c.in-Err.ensures
