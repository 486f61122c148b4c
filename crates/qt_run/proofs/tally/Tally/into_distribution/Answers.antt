use Rattle.std.proofs.Common.{◌≡◌, ◌^◌, ◌≤◌, ◌∷◌, ◌++◌, [], List, true, false, arith, rules, refl, subst, sym, ap, ◌∙◌, append-nil}
use Rattle.std.specs.Cmp.Lexicographic.{slice_cmp}
use Rattle.std.specs.Int.RustNames.{unsigned_abs}
use Rattle.std.specs.List.Sorted.{IsStrictlySortedBy}
use Rattle.std.specs.Map.{keys_of}
use Rattle.std.specs.Ordering.{nat_cmp}
use Rattle.qt_root2.specs.Real.{plus_real}
use Rattle.qt_root2.proofs.Reals.{plus_real-zero, zero_real-plus}
use Rattle.qt_report.specs.declared.distribution.Chance.{Chance}
use Rattle.qt_report.specs.Report.{total_of}
use Rattle.qt_run.specs.Distribution.{IsDistribution}
use Rattle.qt_run.specs.Tally.{Masses, numerators, real_number, whole_part}
use Rattle.qt_run.proofs.Held.{real_number_is_least, real_number_of_sum, sum_fits, whole_part_of_sum}
use Rattle.qt_run.proofs.Listed.{chances_of, is_nothing, listed, listed_is, listed_more, nothing_more, nothing_where, summed_more, numerators_more, real_number_zero, reduced_of_is, real_number_of_reduced, total_of_is_least, chances_distribution}
use Rattle.qt_run.proofs.tally.Tally.into_distribution.Goals as goal

pub loop-output-init : goal.loop-output-init
loop-output-init c =
    let all : c.into_iter-output-iterator.result ≡ c.args.self = c.into_iter-output-iterator.ensures.into_iter_gives.0 ∙ c.self.view_is in
    let zero = real_number_zero c.zero-total.result c.zero-total.ensures.a c.zero-total.ensures.b in
    let within : numerators c.self.inside.masses.entries ≤ 2 ^ 126 = c.self.invariant in
    let nothing : whole_part c.zero-total.result ≡ 0 = ap unsigned_abs c.zero-total.ensures.a in
    let same : numerators c.into_iter-output-iterator.result ≡ numerators c.self.inside.masses.entries = ap numerators c.into_iter-output-iterator.ensures.into_iter_gives.0 in
    record {
      listed = ap (λ (xs : List Chance). xs ++ chances_of c.into_iter-output-iterator.result) c.new-chances.ensures.items ∙ ap chances_of all;
      room = omega (arith, within, nothing, same);
      summed = ap (λ r. plus_real r (total_of (chances_of c.into_iter-output-iterator.result))) zero
          ∙ zero_real-plus (total_of (chances_of c.into_iter-output-iterator.result)) (total_of_is_least (chances_of c.into_iter-output-iterator.result))
          ∙ ap (λ (es : Masses). total_of (chances_of es)) all;
    }

pub plus-total-requires : goal.plus-total-requires
plus-total-requires c =
    let e : c.loop-output.output-iterator ≡ (c.in-Some.output, c.in-Some.mass) ∷ c.next.new.self = c.in-Some.ensures.steps in
    let n = numerators_more c.loop-output.output-iterator c.next.new.self c.in-Some.output c.in-Some.mass e in
    sum_fits c.loop-output.total c.in-Some.mass (omega (arith, n, c.loop-output.invariant.room))

pub loop-output-preserved-then-not-is_zero : goal.loop-output-preserved-then-not-is_zero
loop-output-preserved-then-not-is_zero c =
    let rest : Masses = c.loop-output.output-iterator in
    let es : Masses = c.next.new.self in
    let e : c.loop-output.output-iterator ≡ (c.in-Some.output, c.in-Some.mass) ∷ c.next.new.self = c.in-Some.ensures.steps in
    let n = numerators_more rest es c.in-Some.output c.in-Some.mass e in
    let something : is_nothing c.in-Some.mass ≡ false = nothing_where c.is_zero.result c.in-Some.mass c.is_zero.ensures.0 c.is_zero.ensures.1 ∙ search rules in
    let entry : Chance = record { output = c.in-Some.output; of = c.reduced-of.result } in
    let same : entry ≡ listed c.in-Some.output c.in-Some.mass =
    listed_is c.in-Some.output c.in-Some.output c.reduced-of.result c.in-Some.mass refl (reduced_of_is c.in-Some.mass c.reduced-of.result c.reduced-of.ensures) in
    let w = whole_part_of_sum c.loop-output.total c.in-Some.mass c.plus-total.result c.plus-total.ensures.a in
    record {
      listed = ap (λ (cs : List Chance). cs ++ chances_of es) c.in_ok-push.ensures.items
          ∙ listed_more c.loop-output.chances.items (chances_of c.args.self) rest es c.in-Some.output c.in-Some.mass entry e something same c.loop-output.invariant.listed;
      room = omega (arith, n, w, c.loop-output.invariant.room);
      summed = summed_more (real_number c.loop-output.total) (real_number c.plus-total.result) (total_of (chances_of c.args.self)) rest es c.in-Some.output c.in-Some.mass e something
          (real_number_of_sum c.loop-output.total c.in-Some.mass c.plus-total.result c.plus-total.ensures.a c.plus-total.ensures.b) c.loop-output.invariant.summed;
    }

pub loop-output-preserved : goal.loop-output-preserved
loop-output-preserved c =
    let rest : Masses = c.loop-output.output-iterator in
    let es : Masses = c.next.new.self in
    let e : c.loop-output.output-iterator ≡ (c.in-Some.output, c.in-Some.mass) ∷ c.next.new.self = c.in-Some.ensures.steps in
    let n = numerators_more rest es c.in-Some.output c.in-Some.mass e in
    let nothing : is_nothing c.in-Some.mass ≡ true = nothing_where c.is_zero.result c.in-Some.mass c.is_zero.ensures.0 c.is_zero.ensures.1 ∙ search rules in
    let same = nothing_more rest es c.in-Some.output c.in-Some.mass e nothing in
    record {
      listed = ap (λ (xs : List Chance). c.loop-output.chances.items ++ xs) (sym same) ∙ c.loop-output.invariant.listed;
      room = omega (arith, n, c.loop-output.invariant.room);
      summed = ap (λ (xs : List Chance). plus_real (real_number c.loop-output.total) (total_of xs)) (sym same) ∙ c.loop-output.invariant.summed;
    }

pub new-requires : goal.new-requires
new-requires c =
    let rest : Masses = c.loop-output.output-iterator in
    let none : rest ≡ [] = c.in-None.ensures.steps.0 in
    let all : c.loop-output.chances.items ≡ chances_of c.args.self =
    sym (append-nil c.loop-output.chances.items) ∙ ap (λ (es : Masses). c.loop-output.chances.items ++ chances_of es) (sym none) ∙ c.loop-output.invariant.listed in
    real_number_of_reduced c.loop-output.total c.reduced.result c.reduced.ensures
    ∙ sym (plus_real-zero (real_number c.loop-output.total) (real_number_is_least c.loop-output.total))
    ∙ ap (λ (es : Masses). plus_real (real_number c.loop-output.total) (total_of (chances_of es))) (sym none)
    ∙ c.loop-output.invariant.summed
    ∙ ap total_of (sym all)

pub returns-clause-chances : goal.returns-clause-chances
returns-clause-chances c =
    let rest : Masses = c.loop-output.output-iterator in
    let none : rest ≡ [] = c.in-None.ensures.steps.0 in
    let all : c.loop-output.chances.items ≡ chances_of c.args.self =
    sym (append-nil c.loop-output.chances.items) ∙ ap (λ (es : Masses). c.loop-output.chances.items ++ chances_of es) (sym none) ∙ c.loop-output.invariant.listed in
    let ordered : IsStrictlySortedBy (slice_cmp nat_cmp) (keys_of c.args.self) =
    subst (λ (es : Masses). IsStrictlySortedBy (slice_cmp nat_cmp) (keys_of es)) c.self.view_is c.into_iter-output-iterator.ensures.into_iter_gives.5 in
    λ leaves h. subst (λ cs. IsDistribution leaves cs) (sym (ap (λ d. d.chances) c.new.ensures ∙ all)) (chances_distribution c.args.self ordered leaves h)
