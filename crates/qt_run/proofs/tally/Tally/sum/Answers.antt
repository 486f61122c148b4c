use Rattle.std.proofs.Common.{◌≡◌, ◌+◌, None, Some, arith, sym, ap, ◌∙◌}
use Rattle.std.specs.Cmp.Lexicographic.{slice_cmp}
use Rattle.std.specs.Map.{lookup}
use Rattle.std.specs.Ordering.{is_eq, nat_cmp}
use Rattle.qt_root2.specs.Real.{plus_real}
use Rattle.qt_root2.proofs.Reals.{zero_real-plus}
use Rattle.qt_run.specs.Tally.{real_number, whole_part}
use Rattle.qt_run.proofs.Held.{found_within, held_found, real_number_is_least, real_number_of_sum, sum_fits, whole_part_found, whole_part_of_sum}
use Rattle.qt_run.proofs.tally.Tally.sum.Goals as goal

pub plus-requires : goal.plus-requires
plus-requires c =
    let known : lookup (λ y. is_eq (slice_cmp nat_cmp c.args.output.now y)) c.args.self.now ≡ Some c.in-Some.before.now = rw (← c.self.view_is) (sym c.in-Some.ensures.value) in
    let most = found_within (λ y. is_eq (slice_cmp nat_cmp c.args.output.now y)) c.args.self.now c.in-Some.before.now known in
    sum_fits c.in-Some.before.now c.args.mass (omega (arith, most, c.requires))

pub returns-in-Some-clause-real : goal.returns-in-Some-clause-real
returns-in-Some-clause-real c =
    let known : lookup (λ y. is_eq (slice_cmp nat_cmp c.args.output.now y)) c.args.self.now ≡ Some c.in-Some.before.now = rw (← c.self.view_is) (sym c.in-Some.ensures.value) in
    real_number_of_sum c.in-Some.before.now c.args.mass c.plus.result c.plus.ensures.a c.plus.ensures.b
    ∙ ap (λ x. plus_real x (real_number c.args.mass)) (sym (held_found c.args.self.now c.args.output.now (Some c.in-Some.before.now) known))

pub returns-in-Some-clause-whole : goal.returns-in-Some-clause-whole
returns-in-Some-clause-whole c =
    let known : lookup (λ y. is_eq (slice_cmp nat_cmp c.args.output.now y)) c.args.self.now ≡ Some c.in-Some.before.now = rw (← c.self.view_is) (sym c.in-Some.ensures.value) in
    whole_part_of_sum c.in-Some.before.now c.args.mass c.plus.result c.plus.ensures.a
    ∙ ap (λ x. x + whole_part c.args.mass) (sym (whole_part_found c.args.self.now c.args.output.now (Some c.in-Some.before.now) known))

pub returns-in-None-clause-real : goal.returns-in-None-clause-real
returns-in-None-clause-real c =
    let known : lookup (λ y. is_eq (slice_cmp nat_cmp c.args.output.now y)) c.args.self.now ≡ None = rw (← c.self.view_is) (sym c.in-None.ensures.value) in
    sym (zero_real-plus (real_number c.args.mass) (real_number_is_least c.args.mass))
    ∙ ap (λ x. plus_real x (real_number c.args.mass)) (sym (held_found c.args.self.now c.args.output.now None known))

pub returns-in-None-clause-whole : goal.returns-in-None-clause-whole
returns-in-None-clause-whole c =
    let known : lookup (λ y. is_eq (slice_cmp nat_cmp c.args.output.now y)) c.args.self.now ≡ None = rw (← c.self.view_is) (sym c.in-None.ensures.value) in
    let none = whole_part_found c.args.self.now c.args.output.now None known in
    omega (arith, none)
