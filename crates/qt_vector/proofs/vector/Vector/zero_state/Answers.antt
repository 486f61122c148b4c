use Rattle.std.proofs.Common.{◌≡◌, ◌*◌, ◌%◌, ◌^◌, ◌<◌, [], ◌∷◌, ◌++◌, ap, sym, subst, ◌∙◌, arith}
use Rattle.std.proofs.lemmas.Nat.{one_shl, pow_pos}
use Rattle.qt_ring.specs.Ring.{nil, one}
use Rattle.qt_vector.specs.States.{IsVector}
use Rattle.qt_vector.proofs.Made.{zero_is_vector, zeros_more, zeros_are}
use Rattle.qt_vector.proofs.vector.Vector.zero_state.Goals as goal

pub loop-index-init : goal.loop-index-init
unfolding one
loop-index-init c = record { begun = omega arith; entries = c.in_ok-push.ensures.items ∙ ap (λ xs. xs ++ one ∷ []) c.new-entries.ensures.items }

pub loop-index-preserved : goal.loop-index-preserved
unfolding nil
loop-index-preserved c = record { begun = omega arith; entries = zeros_more c.loop-index._index c.loop-index.entries.items _ c.loop-index.invariant.begun c.loop-index.invariant.entries c.in_ok-push-2.ensures.items }

pub returns : goal.returns
returns c =
    let step : 1 * 2 ^ c.args.n % 2 ^ 64 ≡ 2 ^ c.args.n = one_shl c.args.n 64 (omega arith) in
    let some : 0 < 2 ^ c.args.n = pow_pos c.args.n in
    zeros_are c.args.n c.loop-index._index c.loop-index.entries.items (omega arith) c.loop-index.invariant.entries

pub invariant_of-result : goal.invariant_of-result
invariant_of-result c = subst IsVector (sym (returns c)) (zero_is_vector c.args.n c.requires)
