use Rattle.std.proofs.Common.{arith}
use Rattle.qt_lex.specs.Bytes.{byte}
use Rattle.qt_lex.proofs.Words.{hash_is}
use Rattle.qt_lex.proofs.lexer.hash_at.Goals as goal

pub returns-clause-some : goal.returns-clause-some
returns-clause-some c =
    hash_is (byte c.args.text.now) c.args.at c.letters_end-end.result c.requires.sign (omega arith) c.letters_end-end.ensures.all c.letters_end-end.ensures.stop
