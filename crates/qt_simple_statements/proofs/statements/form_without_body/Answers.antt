use Rattle.std.proofs.Common.{refl, subst, sym}
use Rattle.qt_tree.specs.declared.statement.StatementForm.TheVariants as s
use Rattle.qt_terminals.specs.declared.terminal.Terminal.TheVariants as w
use Rattle.qt_grammar.specs.Outcome.{Says}
use Rattle.qt_expr.proofs.Alternatives.{DiffersFrom}
use Rattle.qt_simple_statements.specs.Parser.{BeginsNoBody, read_alias, read_bit_register, read_barrier, read_by_name, read_constant, read_keyword_alone, read_measurement, read_reset, read_return}
use Rattle.qt_simple_statements.proofs.Choices.{other_terminals, chosen_says, declares, calls, end_is}
use Rattle.qt_simple_statements.proofs.Semicolons.{keyword_says}
use Rattle.qt_simple_statements.proofs.statements.form_without_body.Goals as goal

pub returns-in-Bool : goal.returns-in-Bool
returns-in-Bool c = subst (λ out. Says out c.declaration.result) (sym (declares c.args.tokens.now c.args.levels c.args.at c.terminal.result (sym c.terminal.ensures.value) c.in-Bool.is)) c.declaration.ensures

pub returns-in-Inv : goal.returns-in-Inv
returns-in-Inv c = subst (λ out. Says out c.gate_statement.result) (sym (calls c.args.tokens.now c.args.levels c.args.at c.terminal.result (sym c.terminal.ensures.value) c.in-Inv.is)) c.gate_statement.ensures

pub returns-in-Creg : goal.returns-in-Creg
unfolding read_bit_register
returns-in-Creg c = chosen_says c.args.tokens.now c.args.levels c.args.at 1 w.Creg c.terminal.result c.bit_register.result c.terminal.ensures.value c.in-Creg.is refl refl c.bit_register.ensures

pub returns-in-Const : goal.returns-in-Const
unfolding read_constant
returns-in-Const c = chosen_says c.args.tokens.now c.args.levels c.args.at 2 w.Const c.terminal.result c.constant.result c.terminal.ensures.value c.in-Const.is refl refl c.constant.ensures

pub returns-in-Let : goal.returns-in-Let
unfolding read_alias
returns-in-Let c = chosen_says c.args.tokens.now c.args.levels c.args.at 3 w.Let c.terminal.result c.alias.result c.terminal.ensures.value c.in-Let.is refl refl c.alias.ensures

pub returns-in-Name : goal.returns-in-Name
unfolding read_by_name
returns-in-Name c = chosen_says c.args.tokens.now c.args.levels c.args.at 4 w.Name c.terminal.result c.by_name.result c.terminal.ensures.value c.in-Name.is refl refl c.by_name.ensures

pub returns-in-Measure : goal.returns-in-Measure
unfolding read_measurement
returns-in-Measure c = chosen_says c.args.tokens.now c.args.levels c.args.at 6 w.Measure c.terminal.result c.measurement.result c.terminal.ensures.value c.in-Measure.is refl refl c.measurement.ensures

pub returns-in-Reset : goal.returns-in-Reset
unfolding read_reset
returns-in-Reset c = chosen_says c.args.tokens.now c.args.levels c.args.at 7 w.Reset c.terminal.result c.reset.result c.terminal.ensures.value c.in-Reset.is refl refl c.reset.ensures

pub returns-in-Barrier : goal.returns-in-Barrier
unfolding read_barrier
returns-in-Barrier c = chosen_says c.args.tokens.now c.args.levels c.args.at 8 w.Barrier c.terminal.result c.barrier.result c.terminal.ensures.value c.in-Barrier.is refl refl c.barrier.ensures

pub returns-in-Return : goal.returns-in-Return
unfolding read_return
returns-in-Return c = chosen_says c.args.tokens.now c.args.levels c.args.at 14 w.Return c.terminal.result c.return_statement.result c.terminal.ensures.value c.in-Return.is refl refl c.return_statement.ensures

pub returns-in-Break : goal.returns-in-Break
unfolding read_keyword_alone
returns-in-Break c = chosen_says c.args.tokens.now c.args.levels c.args.at 12 w.Break c.terminal.result c.keyword_alone.result c.terminal.ensures.value c.in-Break.is refl refl (keyword_says c.args.tokens.now w.Break s.Break c.args.at c.keyword_alone.result c.keyword_alone.ensures)

pub returns-in-Continue : goal.returns-in-Continue
unfolding read_keyword_alone
returns-in-Continue c = chosen_says c.args.tokens.now c.args.levels c.args.at 13 w.Continue c.terminal.result c.keyword_alone-in-Continue.result c.terminal.ensures.value c.in-Continue.is refl refl (keyword_says c.args.tokens.now w.Continue s.Continue c.args.at c.keyword_alone-in-Continue.result c.keyword_alone-in-Continue.ensures)

pub returns-in_default : goal.returns-in_default
returns-in_default c =
    let d = c.in_default in
    let n : BeginsNoBody c.terminal.result = subst (λ x. BeginsNoBody x) (sym c.terminal.ensures.value) c.requires in
    let apart : DiffersFrom c.terminal.result other_terminals = (d.not-Bool, (d.not-Bit, (d.not-Int, (d.not-Uint, (d.not-Angle, (d.not-Creg, (d.not-Const, (d.not-Let, (d.not-Name, (d.not-Inv, (d.not-Pow, (d.not-Ctrl, (d.not-NegCtrl, (d.not-GPhase, (d.not-Measure, (d.not-Reset, (d.not-Barrier, (n.0, (n.1.0, (n.1.1, (d.not-Break, (d.not-Continue, (d.not-Return, tt))))))))))))))))))))))) in
    let e = end_is c.args.tokens.now c.args.levels c.args.at (subst (λ x. DiffersFrom x other_terminals) c.terminal.ensures.value apart) in
    subst (λ out. Says out c.keyword_alone-in_default.result) (sym e) (keyword_says c.args.tokens.now w.EndWord s.End c.args.at c.keyword_alone-in_default.result c.keyword_alone-in_default.ensures)
