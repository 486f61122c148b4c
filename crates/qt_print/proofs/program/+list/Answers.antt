use Rattle.std.proofs.Common.{map}
use Rattle.qt_lexemes.specs.Lexemes.{comma, separated}
use Rattle.qt_print.specs.Programs.{item_lexemes}
use Rattle.qt_print.proofs.Puts.{separated_turn}
use Rattle.qt_print.proofs.program.+list.Goals as goal

pub put_list_items-loop-item-preserved : goal.put_list_items-loop-item-preserved
put_list_items-loop-item-preserved t c = separated_turn item_lexemes comma c.loop-item.first _ _ _ _ (separated comma (map item_lexemes c.args.items.now)) c.args.items.now c.loop-item.item-index c.item-item.result c.loop-item-test.true c.item-item.is c.put_between.ensures c.put_list_item.ensures c.loop-item.invariant
