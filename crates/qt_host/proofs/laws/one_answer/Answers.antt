use Rattle.qt_read.proofs.Outcomes.{some_outcome}
use Rattle.qt_host.proofs.OneAnswer.{one_answer as one_answer_lem}
use Rattle.qt_host.proofs.SomeAnswer.{some_answer}
use Rattle.qt_host.proofs.laws.one_answer.Goals as goal

pub returns : goal.returns
returns c = λ words texts.
    let some = some_answer words texts (λ name text. some_outcome name 0 text) in
    (some.0, some.1, λ other said. one_answer_lem words texts other some.0 said some.1)
