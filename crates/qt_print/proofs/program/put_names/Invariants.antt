use Rattle.std.proofs.Common.{true, map, drop}
use Rattle.qt_lexemes.specs.Lexemes.{comma}
use Rattle.qt_print.specs.Programs.{name_lexemes}
use Rattle.qt_print.proofs.Puts.{Left, still_separated}
use Rattle.qt_print.proofs.program.put_names.Given as goal

-- what is put and the parts still to come are the whole
abbrev pub invariant-loop-name : goal.invariant-loop-name
invariant-loop-name l = Left l.fn.page (still_separated true comma (map name_lexemes l.names)) l.page (still_separated l.first comma (map name_lexemes (drop l.name-index l.names)))
