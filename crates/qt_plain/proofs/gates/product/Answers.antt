use Rattle.std.proofs.Common.{◌≡◌, ◌^◌, ap, ◌∙◌, map, get_or, arith}
use Rattle.std.specs.List.{range_with_len}
use Rattle.qt_ring.specs.Ring.{nil}
use Rattle.qt_plain.specs.Operators.{product_with}
use Rattle.qt_plain.proofs.Lists.{pushed, all_pushed}
use Rattle.qt_plain.proofs.Rows.{length-product_with}
use Rattle.qt_plain.proofs.gates.product.Goals as goal

pub loop-index-preserved : goal.loop-index-preserved
loop-index-preserved c = pushed _ c.loop-index.index c.amplitude.result c.loop-index.new.items _ c.loop-index.invariant c.amplitude.ensures c.in_ok-push.ensures.items

pub returns : goal.returns
returns c =
    let done : c.loop-index.index ≡ 2 ^ c.args.qubits = omega (arith, c.requires.full) in
    all_pushed (2 ^ c.args.qubits) (product_with c.args.gate c.args.qubits c.args.entries.now) c.loop-index.new.items (length-product_with c.args.gate c.args.qubits c.args.entries.now)
    (c.loop-index.invariant ∙ ap (λ n. map (λ i. get_or (product_with c.args.gate c.args.qubits c.args.entries.now) i nil) (range_with_len 0 n)) done)
