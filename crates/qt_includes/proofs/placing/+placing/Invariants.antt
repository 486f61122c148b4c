-- Each level is a text deeper, and may have eight.
use Rattle.std.proofs.Common.{◌≡◌, ◌+◌, ◌-◌, ◌*◌, length}
use Rattle.std.specs.Prelude.{reverse, Option, Some}
use Rattle.qt_outside.specs.Causes.{Texts}
use Rattle.qt_includes.specs.declared.gathered.Gathered.{Gathered}
use Rattle.qt_includes.specs.Includes.{Stop, PutsInPlace}
use Rattle.qt_includes.proofs.placing.+placing.Given as goal

abbrev pub decreases-place_items : goal.decreases-place_items
decreases-place_items g l = 3 * (8 - l.depth) + 2

abbrev pub decreases-place_item : goal.decreases-place_item
decreases-place_item g l = 3 * (8 - l.depth) + 1

abbrev pub decreases-place_text : goal.decreases-place_text
decreases-place_text g l = 3 * (8 - l.depth)

-- what the items that still wait come to behind what is in place, all come to
abbrev pub invariant-place_items-loop-item : goal.invariant-place_items-loop-item
invariant-place_items-loop-item g l =
    (g.S.Shelf.holds l.shelf ≡ g.S.Shelf.holds l.fn.shelf)
    × (g.S.Shelf.faults l.shelf ≡ g.S.Shelf.faults l.fn.shelf)
    × ((texts : Texts) → g.S.Shelf.holds l.fn.shelf ≡ Some texts → (stop : Option Stop) (last : Gathered)
    → PutsInPlace texts l.depth (reverse l.waiting) l.gathered stop last
    → PutsInPlace texts l.depth (reverse l.fn.waiting) l.fn.gathered stop last)

abbrev pub decreases-place_items-loop-item : goal.decreases-place_items-loop-item
decreases-place_items-loop-item g l = length l.waiting
