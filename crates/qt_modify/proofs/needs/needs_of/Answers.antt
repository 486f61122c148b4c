use Rattle.std.proofs.Common.{List, ◌+◌, ap, ◌∙◌, length, take}
use Rattle.std.proofs.lemmas.List.{length_push}
use Rattle.qt_gate_calls.specs.declared.body.BodyCall.{BodyCall}
use Rattle.qt_modify.specs.Expansions.{expansions_of, needs_in}
use Rattle.qt_modify.specs.Needs.{calls_need}
use Rattle.qt_modify.proofs.Tables.{one_more_known}
use Rattle.qt_modify.proofs.needs.needs_of.Goals as goal

pub loop-number-preserved : goal.loop-number-preserved
loop-number-preserved c =
    let gates = c.args.gates.now in
    let n = c.loop-number.number in
    let table = c.loop-number.needs in
    let row = c.in_ok-flags.flags in
    let pushed = c.in_ok-push.ensures.ok in record {
      as_many = ap length pushed ∙ length_push table row ∙ ap (λ k. k + 1) c.loop-number.invariant.as_many;
      known =
          one_more_known gates n c.index-gates-number.result table c.push.new.self row c.loop-number-test.true c.index-gates-number.is
          c.loop-number.invariant.as_many c.loop-number.invariant.known
          (λ i.
          c.in_ok-flags.ensures i
          ∙ ap (λ (calls : List BodyCall). calls_need (needs_in (expansions_of (take n gates))) calls i) c.as_slice-in-loop-number.ensures)
          pushed;
    }
