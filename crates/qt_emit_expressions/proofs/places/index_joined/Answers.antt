use Rattle.std.proofs.Common.{◌≡◌, ◌+◌, arith}
use Rattle.qt_emit_expressions.proofs.Adding.{chain}
use Rattle.qt_emit_expressions.proofs.places.index_joined.Goals as goal

pub returns : goal.returns
returns c =
    let e : c.args.cell + 1 ≡ c.in_ok-place.place = omega (arith, c.in_ok-place.ensures) in
    let f : c.args.cell + 2 ≡ c.in_ok-other.other = omega (arith, c.in_ok-place.ensures, c.in_ok-other.ensures) in
    rw (e, f) (chain _ _ _ _ _ c.in_ok-index_tested.ensures
    (chain _ _ _ _ _ c.in_ok-counted_from_end.ensures c.in_ok-joined.ensures))
