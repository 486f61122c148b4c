use Rattle.std.proofs.Common.{true, map, drop}
use Rattle.qt_lexemes.specs.Lexemes.{comma}
use Rattle.qt_print.specs.Programs.{item_lexemes}
use Rattle.qt_print.proofs.Puts.{Left, still_separated}
use Rattle.qt_print.proofs.program.+list.Given as goal

-- what is put and the parts still to come are the whole
abbrev pub invariant-put_list_items-loop-item : goal.invariant-put_list_items-loop-item
invariant-put_list_items-loop-item l = Left l.fn.page (still_separated true comma (map item_lexemes l.items)) l.page (still_separated l.first comma (map item_lexemes (drop l.item-index l.items)))
