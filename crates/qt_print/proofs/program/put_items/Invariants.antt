use Rattle.std.proofs.Common.{map, drop, []}
use Rattle.qt_print.specs.Statements.{all_lines}
use Rattle.qt_print.specs.Programs.{item_lines}
use Rattle.qt_print.proofs.Lines.{LinesLeft}
use Rattle.qt_print.proofs.program.put_items.Given as goal

-- what is put and what is still to come are the whole
abbrev pub invariant-loop-item : goal.invariant-loop-item
invariant-loop-item l = LinesLeft [] l.fn.page (all_lines (map item_lines l.items)) l.page (all_lines (map item_lines (drop l.item-index l.items)))
