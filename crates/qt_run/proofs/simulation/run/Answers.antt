use Rattle.std.proofs.Common.{◌+◌, ◌≤◌, length, sym, ap, ◌∙◌, subst}
use Rattle.std.proofs.lemmas.Result.{IfOk-weaker}
use Rattle.qt_first.specs.Form.{ArePlaced}
use Rattle.qt_run.specs.Tree.{leaves_of}
use Rattle.qt_run.specs.Tally.{Masses, held}
use Rattle.qt_run.proofs.Chances.{total_of_distribution}
use Rattle.qt_run.proofs.Followed.{root_halvings, root_placed, shares_held}
use Rattle.qt_run.proofs.Totals.{program_total}
use Rattle.qt_run.proofs.simulation.run.Goals as goal

pub follow-requires-clause-placed : goal.follow-requires-clause-placed
follow-requires-clause-placed c =
    subst (ArePlaced c.in_ok-root.root.state.qubits 64) (sym c.items.ensures) (root_placed c.args.program.now c.in_ok-root.root c.requires c.in_ok-root.ensures)

pub follow-requires-clause-few_halvings : goal.follow-requires-clause-few_halvings
follow-requires-clause-few_halvings c =
    subst (λ ss. c.in_ok-root.root.state.halvings + length ss ≤ 32) (sym c.items.ensures) (root_halvings c.args.program.now c.in_ok-root.root c.requires c.in_ok-root.ensures)

pub returns-clause-chances : goal.returns-clause-chances
returns-clause-chances c =
    let p = c.args.program.now in
    let shares = shares_held c.new-tally.result c.follow.new.tally c.items.result.now p c.in_ok-root.root c.new-tally.ensures c.items.ensures c.in_ok-root.ensures c.in_ok-follow.ensures.added in
    IfOk-weaker c.into_distribution.result _ _ (λ d h. h (leaves_of p) (λ o. ap (λ (m : Masses). held m o) c.tally.view_is ∙ shares o)) c.into_distribution.ensures.chances

pub returns-clause-total : goal.returns-clause-total
returns-clause-total c =
    let p = c.args.program.now in
    let shares = shares_held c.new-tally.result c.follow.new.tally c.items.result.now p c.in_ok-root.root c.new-tally.ensures c.items.ensures c.in_ok-root.ensures c.in_ok-follow.ensures.added in
    IfOk-weaker c.into_distribution.result _ _
    (λ d h. total_of_distribution (leaves_of p) d.chances (h (leaves_of p) (λ o. ap (λ (m : Masses). held m o) c.tally.view_is ∙ shares o)) ∙ program_total p c.requires)
    c.into_distribution.ensures.chances
