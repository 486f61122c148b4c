use Rattle.qt_words.specs.declared.request.Mode.TheVariants.{Format}
use Rattle.qt_host.proofs.Answers.{no_answer}
use Rattle.qt_host.proofs.answer.canonical_of.Goals as goal

pub returns-in-Err : goal.returns-in-Err
returns-in-Err c =
    let name = c.args.name.now in
    let text = c.args.text.now in
    no_answer Format name text c.told.result (c.told.ensures name text c.in-Err.ensures)
