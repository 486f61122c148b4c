use Rattle.std.proofs.Common.{sym, ◌∙◌, arith}
use Rattle.qt_ring.specs.Ring.{nil}
use Rattle.qt_canon_laws.proofs.FirstEntries.{first_entry_at, first_entry_none, some_first_entry}
use Rattle.qt_canon.proofs.search.first_nonzero.Goals as goal

pub returns-then-not-is_zero : goal.returns-then-not-is_zero
unfolding nil
returns-then-not-is_zero c = sym (first_entry_at c.args.entries.now c.loop-entry.entry-index c.loop-entry-test.true c.loop-entry.invariant (sym c.is_zero.ensures ∙ c.if-not-is_zero.true))

pub returns : goal.returns
returns c = absurd (some_first_entry c.args.entries.now c.requires (first_entry_none c.args.entries.now (λ k l. c.loop-entry.invariant k (omega arith))))
