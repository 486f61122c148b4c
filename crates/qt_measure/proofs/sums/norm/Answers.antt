use Rattle.std.proofs.Common.{◌+◌, ◌≤◌, ◌^◌, arith}
use Rattle.qt_ring.specs.declared.TheConstants.{QUBITS}
use Rattle.qt_ring.specs.Ring.{nil}
use Rattle.qt_measure.proofs.Totals.{total_a_more, total_b_more, entry_small, norm_size, total_size, sum_fits, sum_is}
use Rattle.qt_measure.proofs.sums.norm.Goals as goal

pub norm_parts-parts-requires : goal.norm_parts-parts-requires
unfolding nil
norm_parts-parts-requires c = entry_small c.args.entries.now c.loop-entry.entry-index c.loop-entry-test.true c.requires.small

pub overflow_add-first : goal.overflow_add-first
unfolding nil
overflow_add-first c =
    let es = c.args.entries.now in
    let i = c.loop-entry.entry-index in
    sum_fits _ _ _ _ _ c.loop-entry.invariant.first_is c.norm_parts-parts.ensures.first (total_a_more es i c.loop-entry-test.true)
    (norm_size _ (entry_small es i c.loop-entry-test.true c.requires.small)).0 (total_size es (i + 1) (omega arith) c.requires.small).0

pub overflow_add-second : goal.overflow_add-second
unfolding nil
overflow_add-second c =
    let es = c.args.entries.now in
    let i = c.loop-entry.entry-index in
    sum_fits _ _ _ _ _ c.loop-entry.invariant.second_is c.norm_parts-parts.ensures.second (total_b_more es i c.loop-entry-test.true)
    (norm_size _ (entry_small es i c.loop-entry-test.true c.requires.small)).1 (total_size es (i + 1) (omega arith) c.requires.small).1

pub loop-entry-preserved : goal.loop-entry-preserved
unfolding nil
loop-entry-preserved c =
    let es = c.args.entries.now in
    let i = c.loop-entry.entry-index in
    let m : i + 1 ≤ 2 ^ QUBITS = omega arith in
    record {
      first_is = sum_is _ _ _ _ _ c.loop-entry.invariant.first_is c.norm_parts-parts.ensures.first (total_a_more es i c.loop-entry-test.true)
          (norm_size _ (entry_small es i c.loop-entry-test.true c.requires.small)).0 (total_size es (i + 1) m c.requires.small).0;
      second_is = sum_is _ _ _ _ _ c.loop-entry.invariant.second_is c.norm_parts-parts.ensures.second (total_b_more es i c.loop-entry-test.true)
          (norm_size _ (entry_small es i c.loop-entry-test.true c.requires.small)).1 (total_size es (i + 1) m c.requires.small).1;
    }
