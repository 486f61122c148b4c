use Rattle.std.proofs.Common.{◌^◌, sym, subst, ◌∙◌}
use Rattle.qt_ring.specs.Ring.{Within}
use Rattle.qt_ring.specs.Division.{Divides}
use Rattle.qt_canon_laws.proofs.FirstEntries.{some_first_entry}
use Rattle.qt_canon.specs.declared.plan.Plan.{Plan}
use Rattle.qt_canon.specs.Divisors.{divisor_of}
use Rattle.qt_canon.proofs.Divisors.{divisor_not_nil, first_entry_all, first_entry_divides, quotient_some}
use Rattle.qt_canon.proofs.Planned.{planned_form, greatest_as}
use Rattle.qt_canon.proofs.plan.Plan.new.Goals as goal

pub quotient-first-requires-clause-size : goal.quotient-first-requires-clause-size
quotient-first-requires-clause-size c = subst (Within (2 ^ 54)) (sym c.first_nonzero.ensures) (first_entry_all (Within (2 ^ 54)) c.args.entries.now c.requires.some c.requires.within)

pub quotient-first-requires-clause-whole : goal.quotient-first-requires-clause-whole
quotient-first-requires-clause-whole c =
    let d = c.greatest_divisor-divisor.result in
    subst (Divides (divisor_of d)) (sym c.first_nonzero.ensures) (first_entry_divides (divisor_of d) c.args.entries.now (divisor_not_nil d.twos d.has_root_two d.has_one_minus_omega) c.greatest_divisor-divisor.ensures.whole)

pub power_into_window-unit-requires-clause-some : goal.power_into_window-unit-requires-clause-some
power_into_window-unit-requires-clause-some c = quotient_some (divisor_of c.greatest_divisor-divisor.result) c.first_nonzero.result _ (λ z. some_first_entry c.args.entries.now c.requires.some (sym c.first_nonzero.ensures ∙ z)) c.quotient-first.ensures.value

pub returns-clause-canonical : goal.returns-clause-canonical
returns-clause-canonical c =
    let plan : Plan = record {
      divisor = c.greatest_divisor-divisor.result;
      unit = c.power_into_window-unit.result;
      turn = c.greatest_turn-turn.result;
      few = c.greatest_turn-turn.ensures.few;
    } in
    planned_form c.args.entries.now plan c.quotient-first.result (record {
      divisor = c.greatest_divisor-divisor.ensures;
      value = c.quotient-first.ensures.value ∙ c.first_nonzero.ensures;
      window = c.power_into_window-unit.ensures;
      greatest = greatest_as c.greatest_turn-turn.result _ _ c.times.ensures.value c.greatest_turn-turn.ensures.greatest;
    })
