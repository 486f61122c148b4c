use Rattle.std.proofs.Common.{arith, ◌≤◌, ◌+◌}
use Rattle.qt_lex.specs.Bytes.{byte}
use Rattle.qt_lex.specs.Tokens.{line_of, column_of}
use Rattle.qt_lex.proofs.Places.{line_small, column_small}
use Rattle.qt_lex.proofs.lexer.place_after.Goals as goal

pub overflow_add-line : goal.overflow_add-line
overflow_add-line c =
    let small : line_of (byte c.args.text.now) c.loop-at.at ≤ c.loop-at.at + 1 = line_small (byte c.args.text.now) c.loop-at.at in
    omega (arith, small, c.loop-at.invariant.0)

pub overflow_add-column : goal.overflow_add-column
overflow_add-column c =
    let small : column_of (byte c.args.text.now) c.loop-at.at ≤ c.loop-at.at + 1 = column_small (byte c.args.text.now) c.loop-at.at in
    omega (arith, small, c.loop-at.invariant.1)
