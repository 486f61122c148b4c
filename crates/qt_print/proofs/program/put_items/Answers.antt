use Rattle.std.proofs.Common.{[], map}
use Rattle.qt_print.specs.Statements.{all_lines}
use Rattle.qt_print.specs.Programs.{item_lines}
use Rattle.qt_print.proofs.Lines.{lines_turn}
use Rattle.qt_print.proofs.program.put_items.Goals as goal

pub loop-item-preserved : goal.loop-item-preserved
loop-item-preserved c = lines_turn item_lines [] _ _ _ (all_lines (map item_lines c.args.items.now)) c.args.items.now c.loop-item.item-index c.item-item.result c.loop-item-test.true c.item-item.is c.put_item.ensures c.loop-item.invariant
