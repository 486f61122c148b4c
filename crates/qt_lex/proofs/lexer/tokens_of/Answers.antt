use Rattle.std.proofs.Common.{◌≡◌, ℕ, ◌++◌, ◌∷◌, [], append_assoc, ap, ◌∙◌}
use Rattle.qt_tree.specs.declared.place.Place.{Place}
use Rattle.qt_lex.specs.declared.tokens.Token.{Token}
use Rattle.qt_lex.specs.declared.tokens.Kind.{Kind}
use Rattle.qt_lex.specs.declared.tokens.Kind.TheVariants.{End}
use Rattle.qt_lex.specs.Bytes.{byte}
use Rattle.qt_lex.specs.Tokens.{stop, gap, token, open_comment, no_token, behind_gap, behind_token, token_of, place_of}
use Rattle.qt_lex.proofs.Spans.{tokens_within, tokens_end}
use Rattle.qt_lex.proofs.lexer.tokens_of.Goals as goal

-- a token at a place
abbrev placed : Kind → ℕ → ℕ → Place → Token
placed k i j p = record { kind = k; start = i; end = j; place = p }

abbrev file_of : Place → ℕ
file_of p = p.file

pub returns-in-Open-clause-refusal : goal.returns-in-Open-clause-refusal
returns-in-Open-clause-refusal c = λ p h.
    let e : c.text.place ≡ place_of (byte c.args.text.now) c.args.file c.text.at = c.text.invariant.place in
    (c.text.at, c.text.invariant.fault _ (open_comment c.text-test.true c.in-Open.ensures), cc (h, e))

pub text-preserved-in-Ends : goal.text-preserved-in-Ends
text-preserved-in-Ends c = record {
  within = c.in-Ends.ensures.2;
  place = c.place_after-place.ensures ∙ ap (λ t. place_of (byte c.args.text.now) t c.in-Ends.end) (ap file_of c.text.invariant.place);
  tokens = λ rest h. c.text.invariant.tokens rest (gap c.in-Ends.end c.text-test.true c.in-Ends.ensures.0 h);
  fault = λ p h. c.text.invariant.fault p (behind_gap c.in-Ends.end c.text-test.true c.in-Ends.ensures.0 h);
}

pub returns-in-None-clause-refusal : goal.returns-in-None-clause-refusal
returns-in-None-clause-refusal c = λ p h.
    let e : c.text.place ≡ place_of (byte c.args.text.now) c.args.file c.text.at = c.text.invariant.place in
    (c.text.at, c.text.invariant.fault _ (no_token c.text-test.true c.in-Solid.ensures c.in-None.ensures.none), cc (h, e))

pub text-preserved : goal.text-preserved
text-preserved c = record {
  within = c.in-Some.ensures.inside;
  place = c.place_after-place-in-Some.ensures ∙ ap (λ t. place_of (byte c.args.text.now) t c.in-Some.end) (ap file_of c.text.invariant.place);
  tokens = λ rest h.
      let t = c.text.invariant.tokens (token_of (byte c.args.text.now) c.args.file c.in-Some.kind c.text.at c.in-Some.end ∷ rest)
      (token c.in-Some.kind c.in-Some.end c.text-test.true c.in-Solid.ensures c.in-Some.ensures.some h) in
      let e : c.push.new.self.items ≡ c.text.tokens.items ++ token_of (byte c.args.text.now) c.args.file c.in-Some.kind c.text.at c.in-Some.end ∷ [] =
      c.in_ok-push-in-Some.ensures.items ∙ ap (λ p. c.text.tokens.items ++ placed c.in-Some.kind c.text.at c.in-Some.end p ∷ []) c.text.invariant.place in
      rw (e, append_assoc) t;
  fault = λ p h. c.text.invariant.fault p (behind_token c.in-Some.kind c.in-Some.end c.text-test.true c.in-Solid.ensures c.in-Some.ensures.some h);
}

pub returns-clause-tokens : goal.returns-clause-tokens
returns-clause-tokens c =
    let e : c.push-2.new.self.items ≡ c.text.tokens.items ++ token_of (byte c.args.text.now) c.args.file End c.text.at c.text.at ∷ [] =
    c.in_ok-push.ensures.items ∙ ap (λ p. c.text.tokens.items ++ placed End c.text.at c.text.at p ∷ []) c.text.invariant.place in
    rw e (c.text.invariant.tokens (token_of (byte c.args.text.now) c.args.file End c.text.at c.text.at ∷ []) (stop c.text-test.false))

pub returns-clause-spans : goal.returns-clause-spans
returns-clause-spans c = tokens_within c.args.text.now c.args.file c.push-2.new.self.items (returns-clause-tokens c)

pub returns-clause-last : goal.returns-clause-last
returns-clause-last c = tokens_end c.args.text.now c.args.file c.push-2.new.self.items (returns-clause-tokens c)
