-- What is compared of a leaf (flat code is this profile's; OpenQASM 3.0 live specification, "Classical instructions"). Of a fault and of a
-- leaf without fuel the signal and the trail are; the slots, the state and the fuel aren't, since a gate call may fault behind some of its
-- primitives. Of each other leaf everything is.
use Rattle.std.specs.Prelude.{◌≡◌, List, [], map}
use Rattle.qt_ring.specs.State.{zero_state}
use Rattle.qt_meaning.specs.Points.{Point, Signal, Faulted, Dry, Leaf}

abbrev pub trail_alone : Point → Point
trail_alone p = record { store = []; state = zero_state 0; fuel = 0; trail = p.trail }

abbrev pub seen_point : Signal → Point → Point
seen_point (Faulted fault place) p = trail_alone p
seen_point Dry p = trail_alone p
seen_point s p = p

abbrev pub seen : Leaf → Leaf
seen l = record l { point = seen_point l.signal l.point }

-- the same leaves in the same order, but for what isn't compared; a record, so that the lists are found
pub record LookAlike (a b : List Leaf) : Type 0 where
  pub same : map seen a ≡ map seen b
