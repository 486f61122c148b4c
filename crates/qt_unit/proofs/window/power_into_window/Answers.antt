use Rattle.std.proofs.Common.{◌≡◌, ℕ, ap, sym, subst, ◌∙◌, arith, ℤ, pos, ◌-ℤ◌}
use Rattle.std.proofs.lemmas.Int.{ints}
use lib.IntN.{neg_ℤ}
use Rattle.qt_ring.specs.declared.omega.Omega.{Omega}
use Rattle.qt_ring.specs.Ring.{times, epsilon_inverse, norm_a, norm_b}
use Rattle.qt_ring.proofs.Norms.{norm_a-nonneg}
use Rattle.qt_canon_laws.specs.Powers.{power, epsilon_power}
use Rattle.qt_canon_laws.specs.FirstEntry.{InWindow}
use Rattle.qt_canon_laws.proofs.Epsilons.{epsilon_power-neg}
use Rattle.qt_canon_laws.proofs.Existence.{below_not_above}
use Rattle.qt_unit.proofs.window.power_into_window.Goals as goal

opposite : (n : ℕ) (m : ℤ) → m ≡ pos 0 -ℤ pos n → epsilon_power m ≡ power epsilon_inverse n
opposite n m e = let f : m ≡ neg_ℤ (pos n) = omega (arith, ints) in ap epsilon_power f ∙ epsilon_power-neg n

pub steps_up-requires-clause-not_above : goal.steps_up-requires-clause-not_above
steps_up-requires-clause-not_above c = below_not_above (norm_a c.args.x) (norm_b c.args.x) (norm_a-nonneg c.args.x) (c.is_below.ensures.0 c.if-is_below.true)

pub returns-else-is_below : goal.returns-else-is_below
returns-else-is_below c = subst (λ (e : Omega). InWindow (times e c.args.x)) (sym (opposite c.steps_down.result c.down.result.exponent c.down.ensures)) c.steps_down.ensures.window
