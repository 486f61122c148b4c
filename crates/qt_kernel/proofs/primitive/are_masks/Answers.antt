use Rattle.std.proofs.Common.{◌∙◌, eq-eqb}
use Rattle.std.proofs.Math.Nat.{div-eq_of_lt}
use Rattle.qt_kernel.proofs.Halves.{false_true}
use Rattle.qt_kernel.proofs.primitive.are_masks.Goals.{then-ones-n-eq0, else-ones-n-eq0}
use Rattle.qt_kernel.proofs.primitive.are_masks.Goals as goal

pub returns-else-zeros-n-eq0 : goal.returns-else-zeros-n-eq0
returns-else-zeros-n-eq0 c = (
  (λ t. absurd (false_true c.if-ones-n-eq0.value c.if-zeros-n-eq0.false t)),
  (λ m. elim c.if-ones-n-eq0.branch [
    | then-ones-n-eq0 w ↦ w.value-is ∙ eq-eqb _ 0 (div-eq_of_lt m.clear_in)
    | else-ones-n-eq0 w ↦ w.value-is ∙ eq-eqb _ 0 (div-eq_of_lt m.ones_in)
  ]),
)
