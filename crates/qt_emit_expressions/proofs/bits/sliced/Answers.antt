use Rattle.qt_emit_expressions.proofs.Copying.{slice_added}
use Rattle.qt_emit_expressions.proofs.bits.sliced.Goals as goal

pub returns : goal.returns
returns c =
    slice_added c.args.of.cell c.args.of.kind c.args.spread.start c.args.spread.step c.args.count c.in_ok-next.next c.in_ok-used.used _ _ _ _
    c.in_ok-next.ensures c.in_ok-used.ensures c.in_ok-put.ensures c.in_ok-copied.ensures c.in_ok-put-2.ensures
