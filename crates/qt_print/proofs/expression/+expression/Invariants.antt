use Rattle.std.proofs.Common.{◌+◌, ◌*◌, map, drop}
use Rattle.qt_lexemes.specs.Lexemes.{comma, joined, separated}
use Rattle.qt_print.specs.Expressions.{expr_lexemes, index_lexemes, bracket_lexemes, brackets_lexemes, list_lexemes}
use Rattle.qt_print.proofs.Puts.{Left, still_separated}
use Rattle.qt_print.proofs.expression.+expression.Given as goal

-- what is put and the parts still to come are the whole
abbrev pub invariant-put_list-loop-expr : goal.invariant-put_list-loop-expr
invariant-put_list-loop-expr l = Left l.fn.page (list_lexemes l.all) l.page (still_separated l.first comma (map expr_lexemes (drop l.expr-index l.all)))

abbrev pub invariant-put_indexes-loop-index : goal.invariant-put_indexes-loop-index
invariant-put_indexes-loop-index l = Left l.fn.page (separated comma (map index_lexemes l.indexes)) l.page (still_separated l.first comma (map index_lexemes (drop l.index-index l.indexes)))

abbrev pub invariant-put_brackets-loop-indexes : goal.invariant-put_brackets-loop-indexes
invariant-put_brackets-loop-indexes l = Left l.fn.page (brackets_lexemes l.brackets) l.page (joined (map bracket_lexemes (drop l.indexes-index l.brackets)))

-- the depth of what is put, and within a depth who calls whom
abbrev pub decreases-put_expr : goal.decreases-put_expr
decreases-put_expr l = 4 * goal.size-put_expr l + 0

abbrev pub decreases-put_index : goal.decreases-put_index
decreases-put_index l = 4 * goal.size-put_index l + 0

abbrev pub decreases-put_range : goal.decreases-put_range
decreases-put_range l = 4 * goal.size-put_range l + 0

abbrev pub decreases-put_scalar : goal.decreases-put_scalar
decreases-put_scalar l = 4 * goal.size-put_scalar l + 0

abbrev pub decreases-put_parenthesized : goal.decreases-put_parenthesized
decreases-put_parenthesized l = 4 * goal.size-put_parenthesized l + 1

abbrev pub decreases-put_list : goal.decreases-put_list
decreases-put_list l = 4 * goal.size-put_list l + 1

abbrev pub decreases-put_indexes : goal.decreases-put_indexes
decreases-put_indexes l = 4 * goal.size-put_indexes l + 1

abbrev pub decreases-put_dimension : goal.decreases-put_dimension
decreases-put_dimension l = 4 * goal.size-put_dimension l + 1

abbrev pub decreases-put_part : goal.decreases-put_part
decreases-put_part l = 4 * goal.size-put_part l + 1

abbrev pub decreases-put_step : goal.decreases-put_step
decreases-put_step l = 4 * goal.size-put_step l + 1

abbrev pub decreases-put_in_brackets : goal.decreases-put_in_brackets
decreases-put_in_brackets l = 4 * goal.size-put_in_brackets l + 1

abbrev pub decreases-put_sized : goal.decreases-put_sized
decreases-put_sized l = 4 * goal.size-put_sized l + 2

abbrev pub decreases-put_size_arguments : goal.decreases-put_size_arguments
decreases-put_size_arguments l = 4 * goal.size-put_size_arguments l + 2

abbrev pub decreases-put_arguments : goal.decreases-put_arguments
decreases-put_arguments l = 4 * goal.size-put_arguments l + 2

abbrev pub decreases-put_set : goal.decreases-put_set
decreases-put_set l = 4 * goal.size-put_set l + 2

abbrev pub decreases-put_bracket : goal.decreases-put_bracket
decreases-put_bracket l = 4 * goal.size-put_bracket l + 2

abbrev pub decreases-put_brackets : goal.decreases-put_brackets
decreases-put_brackets l = 4 * goal.size-put_brackets l + 3
