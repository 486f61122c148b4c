use Rattle.std.proofs.Common.{◌≡◌, ◌∙◌, subst, sym}
use Rattle.qt_grammar.specs.Outcome.{Says}
use Rattle.qt_parse.proofs.Alternatives.{if_is, while_is, for_is}
use Rattle.qt_parse.proofs.bodies.+statement.Goals as goal

pub statement_form-returns-in-If : goal.statement_form-returns-in-If
statement_form-returns-in-If t c = subst (λ out. Says out c.if_statement.result) (sym (if_is c.args.tokens.now c.args.levels c.args.at (sym c.terminal.ensures.value ∙ c.in-If.is))) c.if_statement.ensures

pub statement_form-returns-in-While : goal.statement_form-returns-in-While
statement_form-returns-in-While t c = subst (λ out. Says out c.while_loop.result) (sym (while_is c.args.tokens.now c.args.levels c.args.at (sym c.terminal.ensures.value ∙ c.in-While.is))) c.while_loop.ensures

pub statement_form-returns-in-For : goal.statement_form-returns-in-For
statement_form-returns-in-For t c = subst (λ out. Says out c.for_loop.result) (sym (for_is c.args.tokens.now c.args.levels c.args.at (sym c.terminal.ensures.value ∙ c.in-For.is))) c.for_loop.ensures
