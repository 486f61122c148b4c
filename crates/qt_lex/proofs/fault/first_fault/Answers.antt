use Rattle.std.proofs.Common.{List, subst}
use Rattle.std.specs.Prelude.{IfNone, IfSome}
use Rattle.qt_lex.specs.declared.tokens.Token.{Token}
use Rattle.qt_lex.specs.Tokens.{GivesTokens, FailsAt}
use Rattle.qt_lex.proofs.Faults.{no_fault_exactly, fault_exactly}
use Rattle.qt_lex.proofs.fault.first_fault.Goals as goal

pub returns-clause-none : goal.returns-clause-none
returns-clause-none c = no_fault_exactly c.args.text.now c.args.file c.fault_in.result
    (subst (λ t. IfNone c.fault_in.result ((tokens : List Token) × GivesTokens t c.args.file tokens)) c.as_bytes.ensures.value c.fault_in.ensures.none)
    (subst (λ t. IfSome c.fault_in.result (λ place. FailsAt t c.args.file place)) c.as_bytes.ensures.value c.fault_in.ensures.some)

pub returns-clause-some : goal.returns-clause-some
returns-clause-some c = fault_exactly c.args.text.now c.args.file c.fault_in.result
    (subst (λ t. IfNone c.fault_in.result ((tokens : List Token) × GivesTokens t c.args.file tokens)) c.as_bytes.ensures.value c.fault_in.ensures.none)
    (subst (λ t. IfSome c.fault_in.result (λ place. FailsAt t c.args.file place)) c.as_bytes.ensures.value c.fault_in.ensures.some)
