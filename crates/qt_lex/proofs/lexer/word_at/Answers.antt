use Rattle.std.proofs.Common.{arith}
use Rattle.qt_lex.specs.Bytes.{byte}
use Rattle.qt_lex.proofs.Words.{reserved_is, constant_is, name_is}
use Rattle.qt_lex.proofs.lexer.word_at.Goals as goal

pub returns-then-longest_in-end-clause-token : goal.returns-then-longest_in-end-clause-token
returns-then-longest_in-end-clause-token c =
    reserved_is (byte c.args.text.now) c.args.at c.word_end-end.result c.longest_in.result (omega arith) c.requires.word c.word_end-end.ensures.stop
    c.longest_in.ensures.value c.if-longest_in-end.true

pub returns-then-longest_in-end-2-clause-token : goal.returns-then-longest_in-end-2-clause-token
returns-then-longest_in-end-2-clause-token c =
    constant_is (byte c.args.text.now) c.args.at c.word_end-end.result c.longest_in-else-longest_in-end.result (omega arith) c.requires.word c.word_end-end.ensures.stop
    c.longest_in-else-longest_in-end.ensures.value c.if-longest_in-end-2.true

pub returns-else-longest_in-end-2-clause-token : goal.returns-else-longest_in-end-2-clause-token
returns-else-longest_in-end-2-clause-token c =
    name_is (byte c.args.text.now) c.args.at c.word_end-end.result c.longest_in.result c.longest_in-else-longest_in-end.result (omega arith) c.requires.word
    c.word_end-end.ensures.all c.word_end-end.ensures.stop
    c.longest_in.ensures.value c.if-longest_in-end.false c.longest_in-else-longest_in-end.ensures.value c.if-longest_in-end-2.false
