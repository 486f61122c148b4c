use Rattle.std.proofs.Common.{arith, rules, ◌≡◌, ◌≤◌, ◌+◌, ◌-◌, ◌*◌, ℕ, cond, eqb, ap, ◌∙◌, sym}
use Rattle.qt_lex.specs.Bytes.{byte}
use Rattle.qt_lex.specs.Numbers.{base_of, number_of, digit_value}
use Rattle.qt_lex.proofs.Counts.{number_step, number_le, base_some}
use Rattle.qt_lex.proofs.number.is_wide.Goals as goal

counted_same : (base x y n m : ℕ) → x ≡ y → n ≡ m → cond (eqb x 95) n (n * base + digit_value x) ≡ cond (eqb y 95) m (m * base + digit_value y)
counted_same base x y n m e f = ap (λ t. cond (eqb t 95) n (n * base + digit_value t)) e ∙ ap (λ t. cond (eqb y 95) t (t * base + digit_value y)) f

pub loop-place-preserved : goal.loop-place-preserved
loop-place-preserved c = record {
  small = omega arith;
  is = c.counted-number.ensures
      ∙ counted_same (base_of c.args.whole.radix) c.byte_at.result (byte c.args.text.now c.loop-place.place) c.loop-place.number _ c.byte_at.ensures.byte c.loop-place.invariant.is
      ∙ sym (number_step (byte c.args.text.now) (base_of c.args.whole.radix) c.args.whole.start c.loop-place.place c.loop-place.auto.place);
}

pub returns-then-number-gt18446744073709551615 : goal.returns-then-number-gt18446744073709551615
returns-then-number-gt18446744073709551615 c =
    let so_far : c.counted-number.result ≡ number_of (byte c.args.text.now) (base_of c.args.whole.radix) c.args.whole.start (c.loop-place.place + 1 - c.args.whole.start) =
    c.counted-number.ensures
    ∙ counted_same (base_of c.args.whole.radix) c.byte_at.result (byte c.args.text.now c.loop-place.place) c.loop-place.number _ c.byte_at.ensures.byte c.loop-place.invariant.is
    ∙ sym (number_step (byte c.args.text.now) (base_of c.args.whole.radix) c.args.whole.start c.loop-place.place c.loop-place.auto.place) in
    let more : number_of (byte c.args.text.now) (base_of c.args.whole.radix) c.args.whole.start (c.loop-place.place + 1 - c.args.whole.start)
    ≤ number_of (byte c.args.text.now) (base_of c.args.whole.radix) c.args.whole.start (c.args.whole.end - c.args.whole.start) =
    number_le (byte c.args.text.now) (base_of c.args.whole.radix) c.args.whole.start (c.loop-place.place + 1 - c.args.whole.start) (c.args.whole.end - c.args.whole.start)
    (base_some c.args.whole.radix) (omega (arith, c.loop-place-test.true, c.loop-place.auto.place)) in
    (λ _. omega (arith, so_far, more, c.if-number-gt18446744073709551615.true), λ _. search rules)
