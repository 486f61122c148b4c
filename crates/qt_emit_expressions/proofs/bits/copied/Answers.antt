use Rattle.std.proofs.Common.{◌≡◌, ◌+◌, ◌-◌, ◌<◌, arith}
use Rattle.qt_flat_code.specs.Expressions.{every}
use Rattle.qt_emit_expressions.proofs.Copying.{one_more}
use Rattle.qt_emit_expressions.proofs.bits.copied.Goals as goal

pub bits-preserved : goal.bits-preserved
bits-preserved c = λ all t.
    let left : 0 < c.args.count - c.bits.i = omega (arith, c.bits-test.true) in
    let e : c.args.count - (c.bits.i + 1) ≡ c.args.count - c.bits.i - 1 = omega arith in
    c.bits.invariant all
    (one_more c.args.from.cell c.args.from.kind (every c.args.read.start c.args.read.step) c.args.to.cell c.args.to.kind
    (every c.args.write.start c.args.write.step) c.args.used c.bits.i (c.args.count - c.bits.i) c.bits.out c.bit_copied.new.out all left
    (rw (← c.every.ensures, ← c.every-in-bits.ensures) c.in_ok-bit_copied.ensures) (rw (← e) t))
