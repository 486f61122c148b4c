use Rattle.std.proofs.Common.{◌≡◌, ◌+◌, ◌*◌, ◌-◌, ◌^◌, ◌≤◌, ◌∷◌, [], length, slice_index_or, arith, refl, sym, ap, ◌∙◌, subst}
use Rattle.std.specs.Prelude.{take, drop}
use Rattle.std.specs.List.{flat_map}
use Rattle.std.specs.Option.{option_to_list}
use Rattle.std.proofs.lemmas.Result.{IfOk-weaker}
use Rattle.qt_first.specs.Form.{ArePlaced, measurements}
use Rattle.qt_mass.specs.Mass.{mass}
use Rattle.qt_first.specs.declared.program.Statement.{Statement}
use Rattle.qt_first.specs.declared.program.Statement.TheVariants.{Hadamard, Measure}
use Rattle.qt_run.specs.Tree.{IsGate, Point, leaves, outcome}
use Rattle.qt_run.specs.Tally.{numerators}
use Rattle.qt_run.proofs.Followed.{adds_leaf, adds_measure, adds_none, after_gate_keeps, after_outcome_same, at_gate, at_measure, is_gate, split_first}
use Rattle.qt_run.proofs.simulation.+follow.Goals as goal

pub follow-returns-in_default-clause-added : goal.follow-returns-in_default-clause-added
follow-returns-in_default-clause-added t c =
    IfOk-weaker c.add.result _ _
    (λ u h. adds_leaf c.args.tally.now c.add.new.self c.args.statements.now c.args.point.now c.in_ok-output.field-0 c.mass.result c.in_default.len_below
    (c.in_ok-output.ensures ∙ ap (λ (p : Point). p.slots) c.point.view_is)
    (c.mass.ensures.value ∙ ap (λ (p : Point). mass p.state) c.point.view_is)
    h)
    c.add.ensures.added

pub follow-follow_outcome-requires : goal.follow-follow_outcome-requires
follow-follow_outcome-requires t c =
    let ss = c.args.statements.now in
    let rest = take (length ss - 1) (drop 1 ss) in
    let e = split_first ss (Hadamard 0) (Measure c.in-Measure.qubit c.in-Measure.bit) c.in-len1-up.len_at_least c.in-Measure.is in
    let m = at_measure c.args.point.now.state.qubits c.in-Measure.qubit c.in-Measure.bit ss rest e c.requires.placed in
    (omega (arith, m.one_less), (m.qubit_in, (m.bit_in, (m.placed, (omega (arith, m.one_less), omega (arith, m.doubled))))))

pub follow-follow_outcome-requires-in-Measure : goal.follow-follow_outcome-requires-in-Measure
follow-follow_outcome-requires-in-Measure t c =
    let ss = c.args.statements.now in
    let rest = take (length ss - 1) (drop 1 ss) in
    let e = split_first ss (Hadamard 0) (Measure c.in-Measure.qubit c.in-Measure.bit) c.in-len1-up.len_at_least c.in-Measure.is in
    let m = at_measure c.args.point.now.state.qubits c.in-Measure.qubit c.in-Measure.bit ss rest e c.requires.placed in
    let first : numerators c.follow_outcome.new.tally ≤ numerators c.args.tally.now + 2 ^ 96 * 2 ^ measurements rest = c.in_ok-follow_outcome-in-Measure.ensures.bound in
    (omega (arith, m.one_less), (m.qubit_in, (m.bit_in, (m.placed, (omega (arith, m.one_less), omega (arith, m.doubled, first))))))

pub follow-follow-requires : goal.follow-follow-requires
follow-follow-requires t c =
    let ss = c.args.statements.now in
    let rest = take (length ss - 1) (drop 1 ss) in
    let first : Statement = slice_index_or ss 0 (Hadamard 0) in
    let e = split_first ss (Hadamard 0) first c.in-len1-up.len_at_least refl in
    let is : IsGate first = is_gate first c.in_default-statement.not-Measure in
    let next = c.in_ok-next-in_default-statement.next in
    let m = at_gate c.args.point.now.state.qubits first ss rest is e c.requires.placed in
    let k = after_gate_keeps first c.args.point.now next is c.in_ok-next-in_default-statement.ensures in
    (omega (arith, m.one_less), (subst (λ n. ArePlaced n 64 rest) (sym k.qubits) m.placed, (omega (arith, m.one_less, k.halvings), subst (λ n. numerators c.args.tally.now + 2 ^ 96 * 2 ^ n ≤ 2 ^ 126) m.as_many c.requires.room)))

pub follow-returns-in_ok-follow_outcome-in-Measure-clause-added :
    goal.follow-returns-in_ok-follow_outcome-in-Measure-clause-added
follow-returns-in_ok-follow_outcome-in-Measure-clause-added t c =
    let ss = c.args.statements.now in
    let rest = take (length ss - 1) (drop 1 ss) in
    let e = split_first ss (Hadamard 0) (Measure c.in-Measure.qubit c.in-Measure.bit) c.in-len1-up.len_at_least c.in-Measure.is in
    IfOk-weaker c.follow_outcome-in-Measure.result _ _
    (λ u h. adds_measure c.args.tally.now c.follow_outcome.new.tally c.follow_outcome-in-Measure.new.tally ss rest c.in-Measure.qubit c.in-Measure.bit c.args.point.now e c.in_ok-follow_outcome-in-Measure.ensures.added h)
    c.follow_outcome-in-Measure.ensures.added

pub follow-returns-in_ok-follow_outcome-in-Measure-clause-bound :
    goal.follow-returns-in_ok-follow_outcome-in-Measure-clause-bound
follow-returns-in_ok-follow_outcome-in-Measure-clause-bound t c =
    let ss = c.args.statements.now in
    let rest = take (length ss - 1) (drop 1 ss) in
    let e = split_first ss (Hadamard 0) (Measure c.in-Measure.qubit c.in-Measure.bit) c.in-len1-up.len_at_least c.in-Measure.is in
    let m = at_measure c.args.point.now.state.qubits c.in-Measure.qubit c.in-Measure.bit ss rest e c.requires.placed in
    let first : numerators c.follow_outcome.new.tally ≤ numerators c.args.tally.now + 2 ^ 96 * 2 ^ measurements rest = c.in_ok-follow_outcome-in-Measure.ensures.bound in
    IfOk-weaker c.follow_outcome-in-Measure.result _ _
    (λ u h. omega (arith, m.doubled, first, h))
    c.follow_outcome-in-Measure.ensures.bound

pub follow_outcome-follow-requires : goal.follow_outcome-follow-requires
follow_outcome-follow-requires t c =
    let next = c.in-Some.next in
    let e : outcome c.args.qubit c.args.bit c.args.outcome c.args.point.now ≡ next ∷ [] = c.in_ok-next.ensures ∙ ap option_to_list c.in-Some.is in
    let k = after_outcome_same c.args.qubit c.args.bit c.args.outcome c.args.point.now next e in
    (omega arith, (subst (λ n. ArePlaced n 64 c.args.rest.now) (sym k.qubits) c.requires.placed, (omega (arith, k.halvings), c.requires.room)))

pub follow_outcome-returns-in-None-clause-added : goal.follow_outcome-returns-in-None-clause-added
follow_outcome-returns-in-None-clause-added t c =
    let e : outcome c.args.qubit c.args.bit c.args.outcome c.args.point.now ≡ [] = c.in_ok-next.ensures ∙ ap option_to_list c.in-None.is in
    adds_none c.args.tally.now (flat_map (leaves c.args.rest.now) (outcome c.args.qubit c.args.bit c.args.outcome c.args.point.now)) (ap (flat_map (leaves c.args.rest.now)) e)
