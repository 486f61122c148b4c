use Rattle.std.proofs.Common.{◌≡◌, ◌-◌, ◌%◌, cond, length, arith, ap, sym, ◌∙◌, true}
use Rattle.std.proofs.Math.Nat.{mod-eq_of_lt}
use Rattle.qt_lex.specs.Bytes.{byte}
use Rattle.qt_lex.specs.Numbers.{number_of}
use Rattle.qt_terminals.specs.Literals.{is_bit_text, bits_of}
use Rattle.qt_terminals.proofs.Numbers.{bits_fit}
use Rattle.qt_terminals.proofs.literal.bits_of.Goals as goal

pub returns : goal.returns
unfolding bits_of
returns c =
    let is : is_bit_text c.args.spelling.now ≡ true = sym c.is_bit_text.ensures.value ∙ c.if-not-is_bit_text.false in
    let n : length c.args.spelling.now - 1 - 1 ≡ length c.args.spelling.now - 2 = omega arith in
    c.number_in.ensures ∙ ap (λ t. number_of (byte c.args.spelling.now) 2 1 t % 18446744073709551616) n ∙ mod-eq_of_lt (bits_fit c.args.spelling.now is)
    ∙ sym (ap (λ t. cond t (number_of (byte c.args.spelling.now) 2 1 (length c.args.spelling.now - 2)) 0) is)
