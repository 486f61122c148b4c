use Rattle.std.proofs.Common.{sym, ◌∙◌}
use Rattle.qt_lex.specs.Bytes.{byte}
use Rattle.qt_lex.proofs.Words.{text_is, wide_text_is, no_text}
use Rattle.qt_lex.proofs.lexer.quoted_at.Goals as goal

pub returns-in_default-clause-none : goal.returns-in_default-clause-none
returns-in_default-clause-none c = no_text (byte c.args.text.now) c.args.at c.requires.quote c.in_default.ensures.none

pub returns-then-is_long_bit_string-clause-some : goal.returns-then-is_long_bit_string-clause-some
returns-then-is_long_bit_string-clause-some c =
    wide_text_is (byte c.args.text.now) c.args.at c.in-Some.end c.in-Some.ensures.some (sym c.is_long_bit_string.ensures ∙ c.if-is_long_bit_string.true)

pub returns-else-is_long_bit_string-clause-some : goal.returns-else-is_long_bit_string-clause-some
returns-else-is_long_bit_string-clause-some c =
    text_is (byte c.args.text.now) c.args.at c.in-Some.end c.in-Some.ensures.some (sym c.is_long_bit_string.ensures ∙ c.if-is_long_bit_string.false)
