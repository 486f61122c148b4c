use Rattle.std.proofs.Common.{◌≡◌, [], ◌∷◌, true, false, rules, arith, refl}
use Rattle.std.proofs.lemmas.Grind.{common_steps}
use Rattle.qt_terminals.specs.declared.terminal.Terminal.TheVariants as w
use Rattle.qt_terminals.specs.Alphabet.{code}
use Rattle.qt_terminals.specs.Terminals.{stream}
use Rattle.qt_grammar.specs.Form.{member, terminal_at}
use Rattle.qt_expr.proofs.Forms.{no_place, place_is, range_from}
use Rattle.qt_expr.proofs.reader.Reader.place_or_range.Goals as goal

pub returns-in_err-place : goal.returns-in_err-place
returns-in_err-place g c =
    let e = no_place c.args.tokens.now c.args.nesting.levels c.args.nesting.outer c.args.at c.in_err-place.field-0.0 in
    first_of (search rules, grind (arith, common_steps))

pub returns-then-not-next_is : goal.returns-then-not-next_is
returns-then-not-next_is g c =
    let ts = c.args.tokens.now in
    let other : member (terminal_at (stream ts) c.in_ok-place.at) (code w.Colon ∷ []) ≡ false = first_of (search rules, grind (arith, common_steps)) in
    place_is ts c.args.nesting.levels c.args.nesting.outer c.args.at c.in_ok-place.place c.in_ok-place.at c.in_ok-place.ensures other

pub returns-in_err-range : goal.returns-in_err-range
returns-in_err-range g c =
    let ts = c.args.tokens.now in
    let colon : member (terminal_at (stream ts) c.in_ok-place.at) (code w.Colon ∷ []) ≡ true = first_of (search rules, grind (arith, common_steps)) in
    let e = range_from ts c.args.nesting.levels c.args.nesting.outer c.args.at c.in_ok-place.place c.in_ok-place.at c.in_ok-place.ensures colon in
    first_of (search rules, grind (arith, common_steps))

pub returns : goal.returns
returns g c =
    let ts = c.args.tokens.now in
    let colon : member (terminal_at (stream ts) c.in_ok-place.at) (code w.Colon ∷ []) ≡ true = first_of (search rules, grind (arith, common_steps)) in
    rw (range_from ts c.args.nesting.levels c.args.nesting.outer c.args.at c.in_ok-place.place c.in_ok-place.at c.in_ok-place.ensures colon, c.in_ok-range.ensures) refl
