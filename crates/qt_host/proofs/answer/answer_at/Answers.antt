use Rattle.std.proofs.Common.{◌∙◌, string_bytes}
use Rattle.qt_outside.specs.Causes.{text_of}
use Rattle.qt_host.proofs.Answers.{of_fetched}
use Rattle.qt_host.proofs.answer.answer_at.Goals as goal

pub returns-clause-answer : goal.returns-clause-answer
returns-clause-answer g c = λ texts told.
    of_fetched string_bytes c.args.mode c.args.name.now (text_of texts c.args.name.now) c.as_slice.result.now c.answer_of.result (c.as_slice.ensures.value ∙ c.in_ok-text.ensures.text texts told) c.answer_of.ensures
