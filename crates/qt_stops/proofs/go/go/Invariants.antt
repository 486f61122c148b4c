use Rattle.std.proofs.Common.{◌≡◌, ◌<◌, ◌≤◌, length}
use Rattle.qt_machine.specs.Writes.{held}
use Rattle.qt_ring.specs.State.{State}
use Rattle.qt_stops.specs.Halts.{Leads, measure, moment}
use Rattle.qt_stops.specs.Stops.{Step}
use Rattle.qt_stops.proofs.go.go.Given as goal

abbrev pub invariant-way : goal.invariant-way
invariant-way l =
    (l.at < length l.code.instructions)
    × (measure l.code l.at l.fuel ≤ measure l.code l.fn.at l.fn.fuel)
    × (length l.cells ≡ l.code.cells)
    × (length l.slots ≡ l.code.slots)
    × ((state : State) (s : Step) → Leads l.code l.at (held l.cells) (moment l.slots state l.fuel) s
    → Leads l.code l.fn.at (held l.fn.cells) (moment l.fn.slots state l.fn.fuel) s)

abbrev pub decreases-way : goal.decreases-way
decreases-way l = measure l.code l.at l.fuel
