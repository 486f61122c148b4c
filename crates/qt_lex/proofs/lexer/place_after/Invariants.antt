use Rattle.std.proofs.Common.{◌≡◌}
use Rattle.qt_lex.specs.Bytes.{byte}
use Rattle.qt_lex.specs.Tokens.{line_of, column_of}
use Rattle.qt_lex.proofs.lexer.place_after.Given as goal

abbrev pub invariant-loop-at : goal.invariant-loop-at
invariant-loop-at l = (l.line ≡ line_of (byte l.text) l.at) × (l.column ≡ column_of (byte l.text) l.at)
