use Rattle.std.proofs.Common.{◌≡◌, ◌≤◌, ◌-◌, length, arith, ap, sym, ◌∙◌, true}
use Rattle.qt_lex.specs.Bytes.{byte}
use Rattle.qt_lex.specs.Bits.{digit_count}
use Rattle.qt_terminals.specs.Literals.{is_bit_text}
use Rattle.qt_terminals.proofs.Numbers.{few_digits}
use Rattle.qt_terminals.proofs.literal.bit_count.Goals as goal

pub overflow_cast-result : goal.overflow_cast-result
overflow_cast-result c =
    let is : is_bit_text c.args.spelling.now ≡ true = sym c.is_bit_text.ensures.value ∙ c.if-not-is_bit_text.false in
    let few : digit_count (byte c.args.spelling.now) 1 (length c.args.spelling.now - 2) ≤ 64 = few_digits c.args.spelling.now is in
    let n : length c.args.spelling.now - 1 - 1 ≡ length c.args.spelling.now - 2 = omega arith in
    let e = c.digit_count.ensures ∙ ap (digit_count (byte c.args.spelling.now) 1) n in
    omega (arith, few, e)
