use Rattle.std.proofs.Common.{◌≡◌, ◌*◌, ◌%◌, ◌^◌, ◌<◌, [], ◌∷◌, ◌++◌, ap, sym, subst, ◌∙◌, arith}
use Rattle.std.proofs.lemmas.Nat.{one_shl, pow_pos}
use Rattle.qt_ring.specs.Ring.{nil, one}
use Rattle.qt_plain.specs.Plain.{IsPlain}
use Rattle.qt_plain.proofs.Lists.{zeros_more, zeros_are}
use Rattle.qt_plain.proofs.Plain.{zero_plain}
use Rattle.qt_plain.proofs.vector.StateVector.zero.Goals as goal

pub loop-index-init : goal.loop-index-init
unfolding one
loop-index-init c = record { begun = omega arith; entries = c.in_ok-push.ensures.items ∙ ap (λ xs. xs ++ one ∷ []) c.new-entries.ensures.items }

pub loop-index-preserved : goal.loop-index-preserved
unfolding nil
loop-index-preserved c = record { begun = omega arith; entries = zeros_more c.loop-index._index c.loop-index.entries.items _ c.loop-index.invariant.begun c.loop-index.invariant.entries c.in_ok-push-2.ensures.items }

pub returns : goal.returns
returns c =
    let step : 1 * 2 ^ c.args.qubits % 2 ^ 64 ≡ 2 ^ c.args.qubits = one_shl c.args.qubits 64 (omega arith) in
    let some : 0 < 2 ^ c.args.qubits = pow_pos c.args.qubits in
    zeros_are c.args.qubits c.loop-index._index c.loop-index.entries.items (omega arith) c.loop-index.invariant.entries

pub invariant_of-result : goal.invariant_of-result
invariant_of-result c = subst IsPlain (sym (returns c)) (zero_plain c.args.qubits c.requires)
