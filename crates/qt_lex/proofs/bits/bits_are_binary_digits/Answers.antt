use Rattle.qt_lex.specs.Bytes.{byte}
use Rattle.qt_lex.proofs.BitRuns.{bits_from_digits, digits_from_bits}
use Rattle.qt_lex.proofs.bits.bits_are_binary_digits.Goals as goal

pub returns : goal.returns
returns c = (digits_from_bits (byte c.args.text.now) c.args.start c.args.end c.requires, bits_from_digits (byte c.args.text.now) c.args.start c.args.end)
