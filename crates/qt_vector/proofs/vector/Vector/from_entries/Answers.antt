use Rattle.std.proofs.Common.{ap, sym, subst}
use Rattle.qt_vector.specs.States.{IsVector}
use Rattle.qt_vector.proofs.Made.{unhalved, unhalved_is_vector}
use Rattle.qt_vector.proofs.vector.Vector.from_entries.Goals as goal

pub returns : goal.returns
returns c = ap (unhalved c.args.n) c.in_ok-from_slice.ensures.items

pub invariant_of-result : goal.invariant_of-result
invariant_of-result c = subst IsVector (sym (returns c)) (unhalved_is_vector c.args.n c.args.entries.now c.requires.few c.requires.all c.requires.small)
