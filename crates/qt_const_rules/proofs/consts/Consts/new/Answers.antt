use Rattle.std.proofs.Common.{[], sym, subst}
use Rattle.qt_const_rules.specs.Latest.{IsIndexed}
use Rattle.qt_const_rules.proofs.Links.{indexed-nothing}
use Rattle.qt_const_rules.proofs.consts.Consts.new.Goals as goal

pub invariant_of-result : goal.invariant_of-result
invariant_of-result c =
    subst (λ kept. IsIndexed kept c.new-2.result) (sym c.new.ensures.items) (subst (λ marks. IsIndexed [] marks) (sym c.new-2.ensures) indexed-nothing)
