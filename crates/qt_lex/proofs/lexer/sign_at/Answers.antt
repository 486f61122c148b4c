use Rattle.std.proofs.Common.{arith, ◌≡◌, ◌∙◌}
use Rattle.qt_lex.specs.Bytes.{byte}
use Rattle.qt_lex.proofs.Words.{symbol_is, greek_is, euler_is, no_sign}
use Rattle.qt_lex.proofs.lexer.sign_at.Goals as goal

pub returns-then-symbol-gt0-clause-some : goal.returns-then-symbol-gt0-clause-some
returns-then-symbol-gt0-clause-some c = symbol_is (byte c.args.text.now) c.args.at c.longest_in-symbol.result c.longest_in-symbol.ensures.value c.if-symbol-gt0.true

pub returns-then-constant-gt0-clause-some : goal.returns-then-constant-gt0-clause-some
returns-then-constant-gt0-clause-some c = greek_is (byte c.args.text.now) c.args.at c.longest_in-constant.result c.requires.no_word c.longest_in-constant.ensures.value c.if-constant-gt0.true

pub returns-then-euler-gt0-clause-some : goal.returns-then-euler-gt0-clause-some
returns-then-euler-gt0-clause-some c = euler_is (byte c.args.text.now) c.args.at c.longest_in-euler.result c.longest_in-euler.ensures.value c.if-euler-gt0.true

pub returns-clause-none : goal.returns-clause-none
returns-clause-none c =
    no_sign (byte c.args.text.now) c.args.at c.requires.no_word c.requires.no_number c.requires.no_quote c.requires.no_mark
    (let e : 0 ≡ c.longest_in-symbol.result = omega (arith, c.if-symbol-gt0.false) in e ∙ c.longest_in-symbol.ensures.value)
    (let e : 0 ≡ c.longest_in-constant.result = omega (arith, c.if-constant-gt0.false) in e ∙ c.longest_in-constant.ensures.value)
    (let e : 0 ≡ c.longest_in-euler.result = omega (arith, c.if-euler-gt0.false) in e ∙ c.longest_in-euler.ensures.value)
