use Rattle.qt_emit_expressions.proofs.LengthViews.{counted, element_length, bit_length, slice_length, convert_length, unary_length, binary_length, quotient_length, logical_length}
use Rattle.qt_emit_expressions.proofs.lengths.+length.Goals as goal

pub length-returns-in-Bit : goal.length-returns-in-Bit
length-returns-in-Bit t c =
    rw (c.in-Bit.is, bit_length c.in-Bit.of c.in-Bit.index, ← c.get.ensures, ← c.get-in-Bit.ensures) c.both_length.ensures

pub length-returns-in-Binary : goal.length-returns-in-Binary
length-returns-in-Binary t c =
    rw (
      c.in-Binary.is,
      binary_length c.in-Binary.operator c.in-Binary.left c.in-Binary.right,
      ← c.get-in-Binary.ensures,
      ← c.get-in-Binary-2.ensures,
    ) c.both_length-in-Binary.ensures

pub length-returns-in-ExactQuotient : goal.length-returns-in-ExactQuotient
length-returns-in-ExactQuotient t c =
    rw (
      c.in-ExactQuotient.is,
      quotient_length c.in-ExactQuotient.left c.in-ExactQuotient.right,
      ← c.get-in-ExactQuotient.ensures,
      ← c.get-in-ExactQuotient-2.ensures,
    ) c.both_length-in-ExactQuotient.ensures

pub length-returns-in-Logical : goal.length-returns-in-Logical
length-returns-in-Logical t c =
    rw (
      c.in-Logical.is,
      logical_length c.in-Logical.operator c.in-Logical.left c.in-Logical.right,
      ← c.get-in-Logical.ensures,
      ← c.get-in-Logical-2.ensures,
      ← c.jumps_of.ensures,
    ) c.both_length-in-Logical.ensures

pub length-returns-in-Convert : goal.length-returns-in-Convert
length-returns-in-Convert t c =
    rw (c.in-Convert.is, convert_length c.in-Convert.to c.in-Convert.operand, ← c.get-in-Convert.ensures) c.longer-in-Convert.ensures

pub length-returns-in-Slice : goal.length-returns-in-Slice
length-returns-in-Slice t c =
    rw (c.in-Slice.is, slice_length c.in-Slice.of c.in-Slice.start c.in-Slice.step c.in-Slice.count, ← c.get-in-Slice.ensures, ← c.from.ensures)
    c.longer.ensures

pub length-returns-in-Unary : goal.length-returns-in-Unary
length-returns-in-Unary t c =
    rw (c.in-Unary.is, unary_length c.in-Unary.operator c.in-Unary.operand, ← c.get-in-Unary.ensures) c.longer-in-Unary.ensures

pub length-returns-in_ok-indexes_length-in-Element : goal.length-returns-in_ok-indexes_length-in-Element
length-returns-in_ok-indexes_length-in-Element t c =
    rw (
      c.in-Element.is,
      element_length c.in-Element.kind c.in-Element.slot c.in-Element.lengths c.in-Element.indexes,
      ← c.items.ensures,
      ← c.as_slice.ensures,
      ← c.in_ok-indexes_length-in-Element.ensures,
    ) c.sum.ensures

pub indexes_length-returns : goal.indexes_length-returns
indexes_length-returns t c =
    counted c.indexes.all _ c.indexes.lengths.now c.indexes.indexes.now c.in_default.len_below c.indexes.invariant.0
