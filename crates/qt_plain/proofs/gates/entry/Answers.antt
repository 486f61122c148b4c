use Rattle.qt_plain.proofs.Sizes.{entry_within}
use Rattle.qt_plain.proofs.gates.entry.Goals as goal

pub returns-clause-size : goal.returns-clause-size
unfolding Rattle.qt_ring.specs.Ring.nil
returns-clause-size c = entry_within c.args.entries.now c.args.index c.requires.index_in c.requires.bounded
