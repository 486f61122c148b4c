use Rattle.std.proofs.Common.{◌≡◌, sym, subst}
use Rattle.qt_terminals.specs.Terminals.{stream, terminals}
use Rattle.qt_grammar.specs.Spelling.{language_limits}
use Rattle.qt_grammar.specs.Promise.{OnlyProgram}
use Rattle.qt_parse.proofs.Promises.{found}
use Rattle.qt_parse.proofs.parser.parse.Goals as goal

pub returns-in-Ok-clause-program : goal.returns-in-Ok-clause-program
returns-in-Ok-clause-program c =
    subst (λ all. OnlyProgram (stream all) language_limits c.in-Ok.program) c.in_ok-tokens.ensures (found _ c.in-Ok.program c.in-Ok.ensures)
