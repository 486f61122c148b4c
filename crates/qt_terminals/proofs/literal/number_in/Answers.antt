use Rattle.std.proofs.Common.{◌∙◌}
use Rattle.qt_lex.specs.Bytes.{byte}
use Rattle.qt_terminals.proofs.Numbers.{counted_more}
use Rattle.qt_terminals.proofs.literal.number_in.Goals as goal

pub loop-at-preserved : goal.loop-at-preserved
loop-at-preserved c =
    c.counted-number.ensures ∙ counted_more (byte c.args.text.now) c.args.base c.args.start c.loop-at.at c.loop-at.number 18446744073709551616 c.byte_at.result
    c.loop-at.auto.at c.loop-at.invariant c.byte_at.ensures.value
