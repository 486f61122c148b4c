use Rattle.std.proofs.Common.{◌≡◌, Ok}
use Rattle.qt_grammar.specs.Language.{powered}
use Rattle.qt_expr.specs.Parser.{read_power, read_primary, read_exponent_or_none}
use Rattle.qt_expr.proofs.HandedOn.{says_through}
use Rattle.qt_expr.proofs.reader.Reader.power.Goals as goal

pub returns : goal.returns
unfolding read_power read_primary read_exponent_or_none
returns g c =
    let ts = c.args.tokens.now in
    let d = c.args.nesting.levels in
    let outer = c.args.nesting.outer in
    let base : read_primary ts d outer c.args.at ≡ Ok (c.in_ok-base.base, c.in_ok-base.at) = c.in_ok-base.ensures in
    rw base (says_through (read_exponent_or_none ts d outer c.in_ok-base.at) c.exponent_or_none.result (λ x j. Ok (powered c.in_ok-base.base x, j)) c.powered.result c.exponent_or_none.ensures c.powered.ensures)
