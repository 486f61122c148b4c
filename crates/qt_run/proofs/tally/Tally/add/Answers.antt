use Rattle.std.proofs.Common.{◌≡◌, ℕ, ◌+◌, ◌≤◌, ◌^◌, List, arith, subst, sym, ap, ◌∙◌}
use Rattle.qt_root2.specs.Real.{plus_real}
use Rattle.qt_run.specs.Distribution.{part, same_values}
use Rattle.qt_run.specs.Tally.{held, Masses, numerators, real_number, whole_part, whole_part_held}
use Rattle.qt_run.proofs.Held.{held_added, numerators_added}
use Rattle.qt_run.proofs.tally.Tally.add.Goals as goal

pub returns-clause-added : goal.returns-clause-added
returns-clause-added c =
    let old : Masses = c.self.inside.masses.entries in
    subst
    (λ (x : Masses). (o : List ℕ) → held c.insert.new.self.entries o ≡ plus_real (held x o) (part (same_values c.args.output o) (real_number c.args.mass)))
    c.self.view_is
    (held_added old c.insert.new.self.entries c.args.output c.args.mass c.sum-sum.result c.in_ok-insert.ensures.updates.0
    (c.sum-sum.ensures.real ∙ ap (λ (x : Masses). plus_real (held x c.args.output) (real_number c.args.mass)) (sym c.self.view_is)))

pub returns-clause-sum : goal.returns-clause-sum
returns-clause-sum c =
    let old : Masses = c.self.inside.masses.entries in
    subst
    (λ (x : Masses). numerators c.insert.new.self.entries ≡ numerators x + whole_part c.args.mass)
    c.self.view_is
    (numerators_added old c.insert.new.self.entries c.args.output c.args.mass c.sum-sum.result c.in_ok-insert.ensures.was_ordered c.in_ok-insert.ensures.entries
    (c.sum-sum.ensures.whole ∙ ap (λ (x : Masses). whole_part_held x c.args.output + whole_part c.args.mass) (sym c.self.view_is)))

pub invariant_of-self-2 : goal.invariant_of-self-2
invariant_of-self-2 c =
    let s : numerators c.insert.new.self.entries ≡ numerators c.args.self.now + whole_part c.args.mass = returns-clause-sum c in
    let within : numerators c.insert.new.self.entries ≤ 2 ^ 126 = omega (arith, s, c.requires) in
    within
