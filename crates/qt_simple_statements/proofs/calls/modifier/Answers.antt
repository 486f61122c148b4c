use Rattle.std.proofs.Common.{◌∙◌, [], ◌∷◌, rules, arith, refl, sym, subst}
use Rattle.std.proofs.lemmas.Grind.{common_steps}
use Rattle.qt_terminals.specs.declared.terminal.Terminal.TheVariants as w
use Rattle.qt_expr.proofs.Alternatives.{DiffersFrom}
use Rattle.qt_simple_statements.proofs.Modifiers.{inverse_is, power_is, control_is, negated_control_is}
use Rattle.qt_simple_statements.proofs.calls.modifier.Goals as goal

pub returns-in-Inv : goal.returns-in-Inv
returns-in-Inv c = rw (inverse_is c.args.tokens.now c.args.levels c.args.at (sym c.terminal.ensures.value ∙ c.in-Inv.is), c.behind.ensures) refl

pub returns-in_err-exponent-in-Pow : goal.returns-in_err-exponent-in-Pow
returns-in_err-exponent-in-Pow c =
    let e = power_is c.args.tokens.now c.args.levels c.args.at (sym c.terminal.ensures.value ∙ c.in-Pow.is) in
    first_of (search rules, grind (arith, common_steps))

pub returns-in_ok-exponent-in-Pow : goal.returns-in_ok-exponent-in-Pow
returns-in_ok-exponent-in-Pow c = rw (power_is c.args.tokens.now c.args.levels c.args.at (sym c.terminal.ensures.value ∙ c.in-Pow.is), c.in_ok-exponent-in-Pow.ensures) refl

pub returns-in_err-count-in-Ctrl : goal.returns-in_err-count-in-Ctrl
returns-in_err-count-in-Ctrl c =
    let e = control_is c.args.tokens.now c.args.levels c.args.at (sym c.terminal.ensures.value ∙ c.in-Ctrl.is) in
    first_of (search rules, grind (arith, common_steps))

pub returns-in_ok-count-in-Ctrl : goal.returns-in_ok-count-in-Ctrl
returns-in_ok-count-in-Ctrl c = rw (control_is c.args.tokens.now c.args.levels c.args.at (sym c.terminal.ensures.value ∙ c.in-Ctrl.is), c.in_ok-count-in-Ctrl.ensures) refl

pub returns-in_err-count-in_default : goal.returns-in_err-count-in_default
returns-in_err-count-in_default c =
    let apart : DiffersFrom c.terminal.result (w.Inv ∷ w.Pow ∷ w.Ctrl ∷ []) = (c.in_default.not-Inv, (c.in_default.not-Pow, (c.in_default.not-Ctrl, tt))) in
    let e = negated_control_is c.args.tokens.now c.args.levels c.args.at (subst (λ x. DiffersFrom x (w.Inv ∷ w.Pow ∷ w.Ctrl ∷ [])) c.terminal.ensures.value apart) in
    first_of (search rules, grind (arith, common_steps))

pub returns-in_ok-count-in_default : goal.returns-in_ok-count-in_default
returns-in_ok-count-in_default c =
    let apart : DiffersFrom c.terminal.result (w.Inv ∷ w.Pow ∷ w.Ctrl ∷ []) = (c.in_default.not-Inv, (c.in_default.not-Pow, (c.in_default.not-Ctrl, tt))) in
    let e = negated_control_is c.args.tokens.now c.args.levels c.args.at (subst (λ x. DiffersFrom x (w.Inv ∷ w.Pow ∷ w.Ctrl ∷ [])) c.terminal.ensures.value apart) in
    rw (e, c.in_ok-count-in_default.ensures) refl
