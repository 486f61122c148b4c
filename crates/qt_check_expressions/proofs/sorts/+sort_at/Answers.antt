use Rattle.std.proofs.Common.{sym, ap, ◌∙◌}
use Rattle.qt_typing.specs.Sorts.{sort_at}
use Rattle.qt_check_expressions.proofs.SortViews.{cast_sort}
use Rattle.qt_check_expressions.proofs.sorts.+sort_at.Goals as goal

pub returns-in-Cast : goal.returns-in-Cast
returns-in-Cast t c =
    let names = c.args.names.now in
    c.sort_of_cast.ensures names ∙ sym (ap (sort_at names) c.in-Cast.is ∙ cast_sort names c.in-Cast.to c.in-Cast.operand)
