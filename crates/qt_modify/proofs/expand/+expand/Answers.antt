use Rattle.std.proofs.Common.{◌<◌, rules, length, take, sym, ap, ◌∙◌}
use Rattle.std.specs.Option.{option_copied}
use Rattle.qt_modify.specs.Expansions.{expansions_of}
use Rattle.qt_modify.proofs.Calls.{one_more_call, at_gate, at_no_gate, inside, fewer, same_as}
use Rattle.qt_modify.proofs.Tables.{known_before}
use Rattle.qt_modify.proofs.expand.+expand.Goals as goal

pub calls_expansion-loop-call-preserved : goal.calls_expansion-loop-call-preserved
calls_expansion-loop-call-preserved t c =
    one_more_call (expansions_of c.args.gates.now) c.args.given.now c.args.controls.now c.args.qubits.now c.args.calls.now
    c.loop-call.call-index c.call-item.result c.args.steps.now c.loop-call.steps c.body_call_expansion.new.steps c.loop-call.primitives
    c.in_ok-more.more c.append.new.self c.loop-call-test.true c.call-item.is c.loop-call.invariant c.in_ok-more.ensures
    c.in_ok-append.ensures

pub gate_expansion-calls_expansion-requires : goal.gate_expansion-calls_expansion-requires
gate_expansion-calls_expansion-requires t c =
    let gates = c.args.gates.now in
    let there : c.args.number < length gates = inside gates c.args.number c.in-Some.body.now
    (sym c.at.ensures ∙ ap option_copied c.in-Some.is) in
    let falls : length (take c.args.number gates) < length gates = fewer gates c.args.number there in
    (search rules, known_before gates c.args.number c.args.needs.now c.requires)

pub gate_expansion-returns-in-None : goal.gate_expansion-returns-in-None
gate_expansion-returns-in-None t c =
    at_no_gate c.args.gates.now c.args.number c.args.arguments.now c.args.controls.now c.args.qubits.now c.args.steps.now c.new.result
    (sym c.at.ensures ∙ ap option_copied c.in-None.is) c.new.ensures

pub gate_expansion-returns-in-Some : goal.gate_expansion-returns-in-Some
gate_expansion-returns-in-Some t c =
    same_as c.calls_expansion.result _ _ c.calls_expansion.new.steps
    (at_gate c.args.gates.now c.args.number c.in-Some.body.now c.as_slice.result.now c.args.arguments.now c.args.controls.now
    c.args.qubits.now c.args.steps.now (sym c.at.ensures ∙ ap option_copied c.in-Some.is) c.as_slice.ensures)
    c.calls_expansion.ensures
