use Rattle.std.proofs.Common.{◌≡◌, false, rules, arith, sym, subst}
use Rattle.std.proofs.lemmas.Grind.{common_steps}
use Rattle.qt_terminals.specs.Terminals.{stream}
use Rattle.qt_grammar.specs.Form.{member, terminal_at}
use Rattle.qt_grammar.specs.Outcome.{Says}
use Rattle.qt_expr.proofs.Steps.{signs, unsigned_is, no_factor, factor_is}
use Rattle.qt_expr.proofs.reader.Reader.factor.Goals as goal

pub returns-in_default : goal.returns-in_default
returns-in_default g c =
    let ts = c.args.tokens.now in
    let other : member (terminal_at (stream ts) c.args.at) signs ≡ false = first_of (search rules, grind (arith, common_steps)) in
    subst (λ out. Says out c.power.result) (sym (unsigned_is ts c.args.nesting.levels c.args.nesting.outer c.args.at other)) c.power.ensures

pub returns-in_err-at : goal.returns-in_err-at
returns-in_err-at g c =
    let e = no_factor c.args.tokens.now c.args.nesting.levels c.args.nesting.outer c.args.at (search rules) c.in_err-at.ensures.one_too_many in
    first_of (search rules, grind (arith, common_steps))

pub returns-in_err-operand : goal.returns-in_err-operand
returns-in_err-operand g c =
    let e = factor_is c.args.tokens.now c.args.nesting.levels c.args.nesting.outer c.args.at (search rules) c.in_ok-at.ensures.fits in
    first_of (search rules, grind (arith, common_steps))

pub returns : goal.returns
returns g c =
    let e = factor_is c.args.tokens.now c.args.nesting.levels c.args.nesting.outer c.args.at (search rules) c.in_ok-at.ensures.fits in
    first_of (search rules, grind (arith, common_steps))
