use Rattle.std.proofs.Common.{◌≡◌, ℕ, sym, refl, ◌∙◌, arith}
use borrow.Author.Count.{below_more}
use Rattle.qt_ring.specs.declared.omega.Omega.{Omega}
use Rattle.qt_ring.specs.Ring.{two_to, times}
use Rattle.qt_vector.specs.States.{IsSmall}
use Rattle.qt_kernel.specs.Gates.{entry_after}
use Rattle.qt_kernel.proofs.Halves.{small_over, false_true}
use Rattle.qt_kernel.proofs.gate.ControlledU.all_small.Goals as goal

pub halved-requires-clause-whole : goal.halved-requires-clause-whole
halved-requires-clause-whole c = let d = c.requires.whole c.loop-index.index (omega arith) in (d.0, d.1 ∙ sym c.result_at.ensures.value)

pub returns-then-not-is_small : goal.returns-then-not-is_small
returns-then-not-is_small c = (
  (λ t. absurd (cc)),
  (λ h. absurd (false_true c.is_small.result c.if-not-is_small.true (c.is_small.ensures.1 (h c.loop-index.index (omega arith) c.halved.result (c.halved.ensures.value ∙ c.result_at.ensures.value))))),
)

pub loop-index-preserved : goal.loop-index-preserved
loop-index-preserved c = below_more (λ (k : ℕ). (y : Omega) → times (two_to c.args.by) y ≡ entry_after c.args.self c.args.entries.now k → IsSmall y) c.loop-index.index c.loop-index.invariant
    (λ y e. small_over c.args.by _ _ y (c.halved.ensures.value ∙ c.result_at.ensures.value) (c.is_small.ensures.0 c.if-not-is_small.false) e)

pub returns : goal.returns
returns c = (λ t i l. c.loop-index.invariant i (omega arith), λ h. refl)
