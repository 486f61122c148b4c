use Rattle.qt_emit_expressions.proofs.EmittedForms.{both_emitted, bit_emitted, binary_emitted, quotient_emitted, slice_emitted, conversion_emitted, unary_emitted, element_emitted, logical_emitted, index_emitted, place_emitted, no_index}
use Rattle.qt_emit_expressions.proofs.expressions.+expression.Goals as goal

pub both-returns : goal.both-returns
both-returns t c =
    both_emitted c.args.base c.args.cell c.args.at c.args.left.now c.args.right.now c.in_ok-next.next _ _ _ c.in_ok-first.first
    c.in_ok-second.second c.in_ok-next.ensures c.in_ok-first.ensures c.in_ok-second.ensures

pub bit-returns : goal.bit-returns
bit-returns t c =
    bit_emitted c.args.base c.args.cell c.args.at c.args.of.now c.args.index.now c.in_ok-next.next c.in_ok-behind.behind _ _ _
    c.in_ok-values.values c.in_ok-next.ensures c.in_ok-values.ensures c.in_ok-behind.ensures.added c.in_ok-behind.ensures.behind

pub slice-returns : goal.slice-returns
slice-returns t c =
    slice_emitted c.args.base c.args.cell c.args.at c.args.of.now c.args.spread.start c.args.spread.step c.args.count
    c.in_ok-behind.behind _ _ _ c.in_ok-value.value c.in_ok-value.ensures c.in_ok-sliced.ensures (rw (← c.from.ensures) c.in_ok-behind.ensures)

pub conversion-returns : goal.conversion-returns
conversion-returns t c =
    conversion_emitted c.args.base c.args.cell c.args.at c.args.to c.args.operand.now c.in_ok-behind.behind _ _ _ c.in_ok-value.value
    c.in_ok-value.ensures c.in_ok-behind.ensures.added c.in_ok-behind.ensures.behind

pub index_placed-returns : goal.index_placed-returns
index_placed-returns t c =
    index_emitted c.args.base c.args.cell c.args.at c.args.length c.args.first c.args.index.now c.in_ok-next.next c.in_ok-end.end _ _ _
    c.in_ok-value.value c.in_ok-next.ensures c.in_ok-value.ensures c.in_ok-index_joined.ensures c.in_ok-end.ensures

pub element_place-returns : goal.element_place-returns
element_place-returns t c =
    place_emitted c.args.base c.args.cell c.args.at c.args.lengths.now c.args.first c.args.indexes.now c.in_ok-next.next c.in_ok-end.end
    _ _ _ c.in_ok-next.ensures.behind c.in_ok-next.ensures.added c.in_ok-end.ensures

pub unary-returns : goal.unary-returns
unary-returns t c =
    unary_emitted c.args.base c.args.cell c.args.at c.args.operator c.args.operand.now c.in_ok-behind.behind _ _ _ c.in_ok-value.value
    c.or_bool.result c.in_ok-value.ensures c.in_ok-behind.ensures.added c.in_ok-behind.ensures.behind
    (rw (← c.unary_type.ensures.value) c.or_bool.ensures)

pub binary-returns : goal.binary-returns
binary-returns t c =
    binary_emitted c.args.base c.args.cell c.args.at c.args.operator c.args.left.now c.args.right.now c.in_ok-next.next
    c.in_ok-behind.behind _ _ _ c.in_ok-values.values c.or_bool.result c.in_ok-next.ensures c.in_ok-values.ensures
    c.in_ok-behind.ensures.added c.in_ok-behind.ensures.behind (rw (← c.op_type.ensures.value) c.or_bool.ensures)

pub quotient-returns : goal.quotient-returns
quotient-returns t c =
    quotient_emitted c.args.base c.args.cell c.args.at c.args.left.now c.args.right.now c.in_ok-next.next c.in_ok-behind.behind _ _ _
    c.in_ok-values.values c.or_bool.result c.in_ok-next.ensures c.in_ok-values.ensures c.in_ok-divided.ensures c.in_ok-behind.ensures
    (rw (← c.op_type.ensures.value) c.or_bool.ensures)

pub element-returns : goal.element-returns
element-returns t c =
    element_emitted c.args.base c.args.cell c.args.at c.args.kind c.args.slot c.in_ok-first.first c.in_ok-count.count c.in_ok-behind.behind
    c.in_ok-end.end c.args.lengths.now c.args.indexes.now _ _ _ c.in_ok-first.ensures c.in_ok-count.ensures c.in_ok-end.ensures
    (rw (← c.place_in-index.ensures) c.in_ok-behind.ensures.added) c.in_ok-behind.ensures.behind

pub logical-returns : goal.logical-returns
logical-returns t c =
    logical_emitted c.args.base c.args.cell c.args.at c.args.operator c.args.left.now c.args.right.now c.in_ok-more.more c.in_ok-start.start
    _ _ _ _ c.in_ok-first.first c.in_ok-last.last c.in_ok-more.ensures c.in_ok-first.ensures c.in_ok-jumps.ensures
    (rw (← c.jumps_of.ensures) c.in_ok-start.ensures) c.in_ok-last.ensures

pub indexes_placed-returns : goal.indexes_placed-returns
indexes_placed-returns t c =
    c.indexes.invariant.0 _ _ (no_index c.args.base c.args.cell c.args.first _ _ _ _ c.in_default.len_below)
