use Rattle.std.proofs.Common.{ℕ, [], ◌∷◌, ap, ◌∙◌}
use Rattle.qt_tree.specs.declared.place.Place.{Place}
use Rattle.qt_lex.specs.declared.tokens.Kind.TheVariants.{End}
use Rattle.qt_lex.specs.Bytes.{byte}
use Rattle.qt_lex.specs.Tokens.{stop, token_of, place_of}
use Rattle.qt_lex.proofs.Steps.{tokens_before, fault_before, fault_here}
use Rattle.qt_lex.proofs.fault.fault_in.Goals as goal

abbrev file_of : Place → ℕ
file_of p = p.file

pub returns-in_default-clause-some : goal.returns-in_default-clause-some
returns-in_default-clause-some c = (c.text.at, c.text.invariant.fault c.text.at (fault_here c.args.text.now c.text.at c.text-test.true c.in_default.ensures.none), c.text.invariant.place)

pub text-preserved : goal.text-preserved
text-preserved c = record {
  within = c.in-Some.ensures.inside.1;
  place = c.place_after-place.ensures ∙ ap (λ t. place_of (byte c.args.text.now) t c.in-Some.end) (ap file_of c.text.invariant.place);
  tokens = λ rest h. (let before = tokens_before c.args.text.now c.args.file c.text.at c.in-Some.end rest c.text-test.true c.in-Some.ensures.some h in c.text.invariant.tokens before.0 before.1);
  fault = λ p h. c.text.invariant.fault p (fault_before c.args.text.now c.text.at c.in-Some.end p c.text-test.true c.in-Some.ensures.some h);
}

pub returns-clause-none : goal.returns-clause-none
returns-clause-none c = c.text.invariant.tokens (token_of (byte c.args.text.now) c.args.file End c.text.at c.text.at ∷ []) (stop c.text-test.false)
