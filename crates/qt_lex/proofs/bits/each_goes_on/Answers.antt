use Rattle.std.proofs.Common.{◌≡◌, false, sym, ◌∙◌}
use Rattle.qt_lex.specs.declared.number.Radix.TheVariants.{Binary}
use Rattle.qt_lex.specs.Bytes.{byte}
use Rattle.qt_lex.specs.Numbers.{goes_on}
use Rattle.qt_lex.proofs.BitRuns.{each_stops}
use Rattle.qt_lex.proofs.bits.each_goes_on.Goals as goal

pub returns-then-not-goes_on : goal.returns-then-not-goes_on
returns-then-not-goes_on c =
    let stop : goes_on (byte c.args.text.now) Binary c.loop-at.at ≡ false = sym c.goes_on.ensures.value ∙ c.if-not-goes_on.true in
    sym (each_stops (byte c.args.text.now) c.args.start c.loop-at.at c.args.end c.loop-at.auto.at c.loop-at-test.true stop)
