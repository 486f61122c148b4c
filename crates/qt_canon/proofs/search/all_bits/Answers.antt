use Rattle.std.proofs.Common.{[], refl, arith}
use Rattle.qt_canon.proofs.Bits.{joined_more}
use Rattle.qt_canon.proofs.search.all_bits.Goals as goal

pub loop-entry-init : goal.loop-entry-init
loop-entry-init c = λ t. ((λ e. ([], refl)), (λ h. omega arith))

pub loop-entry-preserved : goal.loop-entry-preserved
loop-entry-preserved c = joined_more c.args.entries.now c.loop-entry.entry-index _ _ _ c.loop-entry-test.true c.loop-entry.invariant c.bits_of-bits.ensures
