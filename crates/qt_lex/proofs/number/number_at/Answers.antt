use Rattle.std.proofs.Common.{rules, ◌≤◌, ◌<◌, inl, inr, ℕ, IsTrue, false}
use Rattle.qt_lex.specs.declared.tokens.Kind.TheVariants.{Integer, Wide}
use Rattle.qt_lex.specs.Bytes.{byte}
use Rattle.qt_lex.proofs.Tables.{compare2}
use Rattle.qt_lex.proofs.LongestToken.{decimal_is, whole_is, cut_is, no_number}
use Rattle.qt_lex.proofs.number.number_at.Goals as goal

pub returns-in-Some-clause-some : goal.returns-in-Some-clause-some
returns-in-Some-clause-some c =
    decimal_is (byte c.args.text.now) c.args.at c.in-Some.end c.with_unit.result.0 c.with_unit.result.1 c.requires.number c.in-Some.ensures.decimal c.in-Some.ensures.longest
    c.with_unit.ensures.unit c.with_unit.ensures.ahead c.with_unit.ensures.times c.with_unit.ensures.imaginaries

pub returns-in_default-whole_at-clause-none : goal.returns-in_default-whole_at-clause-none
returns-in_default-whole_at-clause-none c =
    no_number (byte c.args.text.now) c.args.at c.requires.number c.in_default.ensures.none c.in_default-whole_at.ensures.none

pub returns-then-is_cut_by_unit-clause-some : goal.returns-then-is_cut_by_unit-clause-some
returns-then-is_cut_by_unit-clause-some c =
    cut_is (byte c.args.text.now) c.in-Some-whole_at.whole.radix c.in-Some-whole_at.whole.start c.args.at c.in-Some-whole_at.whole.end
    c.requires.number c.in_default.ensures.none c.in-Some-whole_at.ensures.whole c.in-Some-whole_at.ensures.stop c.in-Some-whole_at.ensures.preferred
    (c.if-is_cut_by_unit.ensures.0 (search rules))

no_cut : {A : Type 0} → (A → IsTrue false) → A → ⊥
no_cut f a = let h : IsTrue false = f a in cc h

pub returns-then-is_wide-clause-some : goal.returns-then-is_wide-clause-some
returns-then-is_wide-clause-some c =
    whole_is (byte c.args.text.now) c.in-Some-whole_at.whole.radix c.in-Some-whole_at.whole.start c.args.at c.in-Some-whole_at.whole.end
    Wide c.with_unit-then-is_wide.result.0 c.with_unit-then-is_wide.result.1
    c.requires.number c.in_default.ensures.none c.in-Some-whole_at.ensures.whole c.in-Some-whole_at.ensures.stop c.in-Some-whole_at.ensures.preferred
    (no_cut c.if-is_cut_by_unit.ensures.1)
    (inl (c.in-Some-whole_at.whole.radix, c.in-Some-whole_at.whole.start, c.in-Some-whole_at.ensures.whole, c.if-is_wide.ensures.0 (search rules)))
    c.with_unit-then-is_wide.ensures.unit c.with_unit-then-is_wide.ensures.ahead c.with_unit-then-is_wide.ensures.times c.with_unit-then-is_wide.ensures.imaginaries

below : (m n : ℕ) → (m ≤ n → IsTrue false) → n < m
below m n f = elim (compare2 m n) [ inl le ↦ absurd (no_cut f le) | inr lt ↦ lt ]

pub returns-clause-some : goal.returns-clause-some
returns-clause-some c =
    whole_is (byte c.args.text.now) c.in-Some-whole_at.whole.radix c.in-Some-whole_at.whole.start c.args.at c.in-Some-whole_at.whole.end
    Integer c.with_unit-2.result.0 c.with_unit-2.result.1
    c.requires.number c.in_default.ensures.none c.in-Some-whole_at.ensures.whole c.in-Some-whole_at.ensures.stop c.in-Some-whole_at.ensures.preferred
    (no_cut c.if-is_cut_by_unit.ensures.1)
    (c.in-Some-whole_at.whole.radix, c.in-Some-whole_at.whole.start, c.in-Some-whole_at.ensures.whole, below _ _ c.if-is_wide.ensures.1)
    c.with_unit-2.ensures.unit c.with_unit-2.ensures.ahead c.with_unit-2.ensures.times c.with_unit-2.ensures.imaginaries
