use Rattle.std.proofs.Common.{◌^◌, List, sym, ap, subst, ◌∙◌, pos, ◌≤ℤ◌}
use Rattle.std.proofs.lemmas.Result.{IfOk-at_ok}
use Rattle.qt_ring.specs.declared.omega.Omega.{Omega}
use Rattle.qt_ring.specs.State.{total_a, total_b}
use Rattle.qt_plain.specs.Vectors.{state_of}
use Rattle.qt_mass.specs.Mass.{mass}
use Rattle.qt_plain.proofs.Plain.{plain_bounded}
use Rattle.qt_plain.proofs.Sizes.{total_good_at}
use Rattle.qt_plain.proofs.Weighed.{weight_is, weight_bounded, weight_good, weighed_mass, mass_bounded, weigh_ok}
use Rattle.qt_plain.proofs.vector.StateVector.mass.Goals as goal

pub total-requires : goal.total-requires
total-requires c =
    subst (λ (es : List Omega). total_a es ≤ℤ pos (4 ^ 32)) (sym c.as_slice.ensures.value) (plain_bounded (state_of c.self.inside) c.self.invariant)

pub invariant_of-weight : goal.invariant_of-weight
invariant_of-weight c =
    let w = weight_is c.self.inside.halvings c.self.invariant.few_halvings in
    record { good = weight_good _ _ w; bounded = weight_bounded c.self.inside.halvings _ w }

pub mass-requires : goal.mass-requires
mass-requires c = record { norm = total_good_at c.as_slice.result.now c.total.result.0 c.total.result.1 c.total.ensures.first c.total.ensures.second }

pub unwrap-requires : goal.unwrap-requires
unwrap-requires c =
    c.mass.ensures.ok.1
    (weigh_ok (state_of c.self.inside) _ c.total.result.0 c.total.result.1 c.self.invariant (weight_is c.self.inside.halvings c.self.invariant.few_halvings) (c.total.ensures.first ∙ ap total_a c.as_slice.ensures.value))

pub returns-clause-value : goal.returns-clause-value
returns-clause-value c =
    weighed_mass (state_of c.self.inside) c.unwrap.result _ c.total.result.0 c.total.result.1 c.self.invariant (weight_is c.self.inside.halvings c.self.invariant.few_halvings)
    (c.total.ensures.first ∙ ap total_a c.as_slice.ensures.value) (c.total.ensures.second ∙ ap total_b c.as_slice.ensures.value)
    (IfOk-at_ok _ c.unwrap.ensures c.mass.ensures.value)
    ∙ ap mass c.self.view_is

pub returns-clause-bounded : goal.returns-clause-bounded
returns-clause-bounded c =
    mass_bounded (state_of c.self.inside) c.unwrap.result _ c.total.result.0 c.total.result.1 c.self.invariant (weight_is c.self.inside.halvings c.self.invariant.few_halvings)
    (c.total.ensures.first ∙ ap total_a c.as_slice.ensures.value) (IfOk-at_ok _ c.unwrap.ensures c.mass.ensures.value)
