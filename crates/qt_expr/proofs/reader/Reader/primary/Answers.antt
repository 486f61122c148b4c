use Rattle.std.proofs.Common.{◌∙◌, sym, subst}
use Rattle.qt_grammar.specs.Outcome.{Says}
use Rattle.qt_expr.proofs.Alternatives.{DiffersFrom}
use Rattle.qt_expr.proofs.Forms.{no_literals, parenthesized_is, name_is, cast_is, size_of_is, literal_is}
use Rattle.qt_expr.proofs.reader.Reader.primary.Goals as goal

pub returns-in-LeftParen : goal.returns-in-LeftParen
returns-in-LeftParen g c = subst (λ out. Says out c.parenthesized.result) (sym (parenthesized_is c.args.tokens.now c.args.nesting.levels c.args.nesting.outer c.args.at (sym c.terminal.ensures.value ∙ c.in-LeftParen.is))) c.parenthesized.ensures

pub returns-in-Name : goal.returns-in-Name
returns-in-Name g c = subst (λ out. Says out c.name.result) (sym (name_is c.args.tokens.now c.args.nesting.levels c.args.nesting.outer c.args.at (sym c.terminal.ensures.value ∙ c.in-Name.is))) c.name.ensures

pub returns-in-Bool : goal.returns-in-Bool
returns-in-Bool g c = subst (λ out. Says out c.cast.result) (sym (cast_is c.args.tokens.now c.args.nesting.levels c.args.nesting.outer c.args.at c.terminal.result (sym c.terminal.ensures.value) c.in-Bool.is)) c.cast.ensures

pub returns-in-SizeOf : goal.returns-in-SizeOf
returns-in-SizeOf g c = subst (λ out. Says out c.size_of.result) (sym (size_of_is c.args.tokens.now c.args.nesting.levels c.args.nesting.outer c.args.at (sym c.terminal.ensures.value ∙ c.in-SizeOf.is))) c.size_of.ensures

pub returns-in_default : goal.returns-in_default
returns-in_default g c =
    let d = c.in_default in
    let apart : DiffersFrom c.terminal.result no_literals = (d.not-LeftParen, (d.not-Name, (d.not-Bool, (d.not-Bit, (d.not-Int, (d.not-Uint, (d.not-Angle, (d.not-SizeOf, tt)))))))) in
    subst (λ out. Says out c.literal.result) (sym (literal_is c.args.tokens.now c.args.nesting.levels c.args.nesting.outer c.args.at (subst (λ x. DiffersFrom x no_literals) c.terminal.ensures.value apart))) c.literal.ensures
