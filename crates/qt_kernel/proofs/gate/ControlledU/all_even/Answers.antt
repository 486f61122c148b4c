use Rattle.std.proofs.Common.{ℕ, ◌+◌, sym, ◌∙◌, arith}
use borrow.Author.Count.{below_more}
use Rattle.qt_ring.specs.Ring.{two_to}
use Rattle.qt_ring.specs.Division.{Divides}
use Rattle.qt_kernel.specs.Gates.{entry_after}
use Rattle.qt_kernel.proofs.Halves.{even_from, even_to, false_true}
use Rattle.qt_kernel.proofs.gate.ControlledU.all_even.Goals as goal

pub halved-requires-clause-whole : goal.halved-requires-clause-whole
halved-requires-clause-whole c = let d = c.requires.whole c.loop-index.index (omega arith) in (d.0, d.1 ∙ sym c.result_at.ensures.value)

pub returns-then-not-is_even : goal.returns-then-not-is_even
returns-then-not-is_even c = (
  (λ t. absurd (cc)),
  (λ h. absurd (false_true c.is_even.result c.if-not-is_even.true (c.is_even.ensures.1 (even_from c.args.by _ _ (c.halved.ensures.value ∙ c.result_at.ensures.value) (h c.loop-index.index (omega arith)))))),
)

pub loop-index-preserved : goal.loop-index-preserved
loop-index-preserved c = below_more (λ (k : ℕ). Divides (two_to (c.args.by + 1)) (entry_after c.args.self c.args.entries.now k)) c.loop-index.index c.loop-index.invariant
    (even_to c.args.by _ _ (c.halved.ensures.value ∙ c.result_at.ensures.value) (c.is_even.ensures.0 c.if-not-is_even.false))
