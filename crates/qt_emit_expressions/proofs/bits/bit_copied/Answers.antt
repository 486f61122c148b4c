use Rattle.std.proofs.Common.{◌≡◌, ◌+◌, arith}
use Rattle.qt_emit_expressions.proofs.Adding.{chain}
use Rattle.qt_emit_expressions.proofs.bits.bit_copied.Goals as goal

pub returns : goal.returns
returns c =
    let e : c.args.used + 1 ≡ c.in_ok-bit.bit = omega (arith, c.in_ok-bit.ensures) in
    rw e (chain _ _ _ _ _ c.in_ok-put.ensures (chain _ _ _ _ _ c.in_ok-put-2.ensures
    (chain _ _ _ _ _ c.in_ok-put-3.ensures c.in_ok-put-4.ensures)))
