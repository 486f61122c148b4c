use Rattle.qt_words.specs.declared.request.Mode.TheVariants.{Run}
use Rattle.qt_host.proofs.Answers.{no_answer}
use Rattle.qt_host.proofs.answer.report_of.Goals as goal

pub returns-in-Err : goal.returns-in-Err
returns-in-Err c =
    let name = c.args.name.now in
    let text = c.args.text.now in
    no_answer Run name text c.told.result (c.told.ensures name text c.in-Err.ensures)
