use Rattle.std.proofs.Common.{arith, ◌≡◌, ℕ, ◌<◌, ◌+◌, Option, Some, None, inl, inr, IfSome, IfNone}
use Rattle.qt_lex.specs.Bytes.{byte}
use Rattle.qt_lex.specs.Numbers.{IsExponent}
use Rattle.qt_lex.specs.Answers.{IsLongestExponent}
use Rattle.qt_lex.proofs.Decimals.{unpointed_longest, unpointed_none, pointed_longest, fraction_longest}
use Rattle.qt_lex.proofs.number.decimal_end.Goals as goal

some_of : {P Q : ℕ → Type 0} (r : Option ℕ) → ((e : ℕ) → P e → Q e) → IfSome r P → IfSome r Q
some_of None f h = h
some_of (Some e) f h = f e h

none_of : {P Q : Type 0} (r : Option ℕ) → (P → Q) → IfNone r P → IfNone r Q
none_of None f h = f h
none_of (Some e) f h = h

pub returns-then-byte_at-ne46-clause-longest : goal.returns-then-byte_at-ne46-clause-longest
returns-then-byte_at-ne46-clause-longest c =
    some_of c.exponent_end.result
    (λ (e : ℕ) (h : IsLongestExponent (byte c.args.text.now) c.digits_end-point.result e).
    unpointed_longest (byte c.args.text.now) c.args.at c.digits_end-point.result e c.digits_end-point.ensures.ahead c.digits_end-point.ensures.all c.digits_end-point.ensures.stop
    (λ z. omega (arith, z, c.byte_at.ensures.byte, c.if-byte_at-ne46.true)) h)
    c.exponent_end.ensures.longest

pub returns-then-byte_at-ne46-clause-none : goal.returns-then-byte_at-ne46-clause-none
returns-then-byte_at-ne46-clause-none c =
    none_of c.exponent_end.result
    (λ (h : (s k : ℕ) → IsExponent (byte c.args.text.now) s c.digits_end-point.result k → ⊥).
    unpointed_none (byte c.args.text.now) c.args.at c.digits_end-point.result c.digits_end-point.ensures.ahead c.digits_end-point.ensures.all c.digits_end-point.ensures.stop
    (λ z. omega (arith, z, c.byte_at.ensures.byte, c.if-byte_at-ne46.true)) (inr h))
    c.exponent_end.ensures.none

pub returns-in-Some-clause-longest : goal.returns-in-Some-clause-longest
returns-in-Some-clause-longest c =
    let x = c.in-Some.ensures.exponent.1 in
    pointed_longest (byte c.args.text.now) c.args.at c.digits_end-point.result c.digits_end-mantissa.result c.in-Some.end
    c.digits_end-point.ensures.ahead c.digits_end-point.ensures.all (omega (arith, c.byte_at.ensures.byte, c.if-byte_at-ne46.false))
    c.digits_end-mantissa.ensures.ahead c.digits_end-mantissa.ensures.all c.digits_end-mantissa.ensures.stop
    (later c.in-Some.ensures.exponent.0 c.digits_end-mantissa.result c.in-Some.end x) x.head c.in-Some.ensures.longest
  where
    later : (s m j : ℕ) → IsExponent (byte c.args.text.now) s m j → m < j
    later s m j x = elim x.start [
      | inl f ↦ (let y : s < j = x.some in omega (arith, y, f))
      | inr f ↦ (let y : s < j = x.some in let z : s ≡ m + 2 = f.1 in omega (arith, y, z))
    ]

pub returns-in-None-clause-longest : goal.returns-in-None-clause-longest
returns-in-None-clause-longest c =
    fraction_longest (byte c.args.text.now) c.args.at c.digits_end-point.result c.digits_end-mantissa.result
    c.digits_end-point.ensures.ahead c.digits_end-point.ensures.all (omega (arith, c.byte_at.ensures.byte, c.if-byte_at-ne46.false))
    c.digits_end-mantissa.ensures.ahead c.digits_end-mantissa.ensures.all c.digits_end-mantissa.ensures.stop c.in-None.ensures.none
