use Rattle.std.proofs.Common.{◌-◌, ◌+◌, ap, ◌∙◌, arith}
use Rattle.qt_machine.proofs.Bits.{power_in, set_bit, room, bit_cleared, bit_added, other_bit}
use Rattle.qt_machine.proofs.operators.with_bit.Goals as goal

pub overflow_sub-result : goal.overflow_sub-result
overflow_sub-result c =
    let e = power_in c.args.place 64 c.requires.place in
    let b = other_bit c.args.bits c.args.place c.args.bit c.if-bits-place.false c.requires.bit in
    let s = set_bit c.args.bits c.args.place (omega arith) in
    omega arith

pub overflow_add-result : goal.overflow_add-result
overflow_add-result c =
    let e = power_in c.args.place 64 c.requires.place in
    let b = other_bit c.args.bits c.args.place c.args.bit c.if-bits-place.false c.requires.bit in
    let r = room c.args.bits c.args.place c.requires.place (omega arith) (omega arith) in
    omega arith

pub returns-then-bit-eq0 : goal.returns-then-bit-eq0
returns-then-bit-eq0 c =
    let e = power_in c.args.place 64 c.requires.place in
    let b = other_bit c.args.bits c.args.place c.args.bit c.if-bits-place.false c.requires.bit in
    ap (λ k. c.args.bits - k) e ∙ bit_cleared c.args.place c.args.bit c.args.bits c.if-bit-eq0.true (omega arith)

pub returns-else-bit-eq0 : goal.returns-else-bit-eq0
returns-else-bit-eq0 c =
    let e = power_in c.args.place 64 c.requires.place in
    let b = other_bit c.args.bits c.args.place c.args.bit c.if-bits-place.false c.requires.bit in
    ap (λ k. c.args.bits + k) e ∙ bit_added c.args.place c.args.bit c.args.bits (omega arith) (omega arith)
