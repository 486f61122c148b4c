use Rattle.std.proofs.Common.{ap, ◌∙◌}
use Rattle.std.specs.List.{list_all}
use Rattle.qt_ring.specs.Ring.{is_nil}
use Rattle.qt_ring.specs.State.{vanishes}
use Rattle.qt_plain.proofs.Lists.{all_nil-list_all}
use Rattle.qt_plain.proofs.vector.StateVector.vanishes.Goals as goal

pub returns : goal.returns
unfolding vanishes
returns c = c.all_zero.ensures ∙ ap (list_all is_nil) c.as_slice.ensures.value ∙ all_nil-list_all c.self.inside.entries.items ∙ ap vanishes c.self.view_is
