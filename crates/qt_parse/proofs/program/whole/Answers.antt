use Rattle.std.proofs.Common.{◌≡◌, ◌+◌, ◌∙◌, true, sym, Ok, refl}
use Rattle.qt_parse.specs.Parser.{read_versions, read_items}
use Rattle.qt_parse.proofs.Whole.{whole_is, the_end}
use Rattle.qt_parse.proofs.program.whole.Goals as goal

pub returns : goal.returns
returns c =
    let ts = c.args.tokens.now in
    let v : read_versions ts 0 ≡ Ok (c.in_ok-versions.versions, c.in_ok-versions.at) = c.in_ok-versions.ensures in
    let i : read_items ts 64 c.in_ok-versions.at ≡ Ok (c.in_ok-items.items, c.in_ok-items.at) = c.in_ok-items.ensures in
    let e = the_end ts c.in_ok-items.at (sym c.next_is.ensures ∙ c.if-not-next_is.false) in
    (c.in_ok-items.at + 1, rw (whole_is ts, v, i, e, c.place-end.ensures) refl)
