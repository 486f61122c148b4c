use Rattle.std.proofs.Common.{◌∙◌, ap}
use Rattle.qt_names.specs.Undoing.{without_last}
use Rattle.qt_names.proofs.Kept.{entries_of-pop}
use Rattle.qt_names.proofs.scope.Scope.take_back.Goals as goal

pub returns : goal.returns
returns c = entries_of-pop _ _ _ c.pop.ensures.entries c.pop.ensures.found.1 ∙ ap without_last c.self.view_is
