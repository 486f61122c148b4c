use Rattle.std.proofs.Common.{◌<◌, arith}
use Rattle.qt_emit_loops.proofs.LoopForms.{get_more}
use Rattle.qt_emit_loops.proofs.keeping.gets.Goals as goal

pub slots-preserved : goal.slots-preserved
slots-preserved c = λ all t.
    let left : 0 < c.slots.left = omega (arith, c.slots-test.true) in
    c.slots.invariant all (get_more c.slots.to c.slots.from c.in_ok-to.to c.in_ok-from.from c.slots.left _ _ _ left c.in_ok-to.ensures
    c.in_ok-from.ensures c.in_ok-put.ensures t)
