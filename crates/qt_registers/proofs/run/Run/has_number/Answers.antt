use Rattle.std.proofs.Common.{arith}
use Rattle.std.proofs.lemmas.Bool.{eqb-true, lt-ltb, ltb-true}
use Rattle.qt_registers.proofs.Meeting.{few_steps, no_rest, number_is_there}
use Rattle.qt_registers.proofs.run.Run.has_number.Goals as goal

pub returns-then-way-self-eq0 : goal.returns-then-way-self-eq0
returns-then-way-self-eq0 c =
    let run = c.args.self in
    let number = c.args.number in
    (λ t. number_is_there run number (omega (arith, c.if-number-self.false)) c.if-way-self-eq0.true (ltb-true _ _ t), λ h. lt-ltb _ _ (few_steps run number h))

pub returns-else-way-self-eq0 : goal.returns-else-way-self-eq0
returns-else-way-self-eq0 c =
    (λ t. absurd (omega (arith, eqb-true _ _ t, c.if-way-self-eq0.false)), λ h. absurd (omega (arith, no_rest c.args.self c.args.number h, c.if-way-self-eq0.false)))
