use Rattle.std.proofs.Common.{◌∙◌, [], ◌∷◌, rules, arith, refl, sym, subst}
use Rattle.std.proofs.lemmas.Grind.{common_steps}
use Rattle.qt_terminals.specs.declared.terminal.Terminal.TheVariants as w
use Rattle.qt_grammar.specs.Outcome.{Says}
use Rattle.qt_expr.proofs.Alternatives.{DiffersFrom}
use Rattle.qt_expr.proofs.Forms.{set_is, without_start_is, place_or_range_is}
use Rattle.qt_expr.proofs.reader.Reader.index_form.Goals as goal

pub returns-in_err-places-in-LeftBrace : goal.returns-in_err-places-in-LeftBrace
returns-in_err-places-in-LeftBrace g c =
    let e = set_is c.args.tokens.now c.args.nesting.levels c.args.nesting.outer c.args.at (sym c.terminal.ensures.value ∙ c.in-LeftBrace.is) in
    first_of (search rules, grind (arith, common_steps))

pub returns-in_ok-places-in-LeftBrace : goal.returns-in_ok-places-in-LeftBrace
returns-in_ok-places-in-LeftBrace g c = rw (set_is c.args.tokens.now c.args.nesting.levels c.args.nesting.outer c.args.at (sym c.terminal.ensures.value ∙ c.in-LeftBrace.is), c.in_ok-places-in-LeftBrace.ensures) refl

pub returns-in_err-range-in-Colon : goal.returns-in_err-range-in-Colon
returns-in_err-range-in-Colon g c =
    let e = without_start_is c.args.tokens.now c.args.nesting.levels c.args.nesting.outer c.args.at (sym c.terminal.ensures.value ∙ c.in-Colon.is) in
    first_of (search rules, grind (arith, common_steps))

pub returns-in_ok-range-in-Colon : goal.returns-in_ok-range-in-Colon
returns-in_ok-range-in-Colon g c = rw (without_start_is c.args.tokens.now c.args.nesting.levels c.args.nesting.outer c.args.at (sym c.terminal.ensures.value ∙ c.in-Colon.is), c.in_ok-range-in-Colon.ensures) refl

pub returns-in_default : goal.returns-in_default
returns-in_default g c =
    let apart : DiffersFrom c.terminal.result (w.LeftBrace ∷ w.Colon ∷ []) = (c.in_default.not-LeftBrace, (c.in_default.not-Colon, tt)) in
    let e = place_or_range_is c.args.tokens.now c.args.nesting.levels c.args.nesting.outer c.args.at (subst (λ x. DiffersFrom x (w.LeftBrace ∷ w.Colon ∷ [])) c.terminal.ensures.value apart) in
    subst (λ out. Says out c.place_or_range.result) (sym e) c.place_or_range.ensures
