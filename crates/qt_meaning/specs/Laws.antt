-- What a reader expects of the meaning of programs (OpenQASM 3.0 live specification, "Quantum measurement and reset" and "Gates": gates are
-- unitary; Cross et al. 2022). They are stated here, and `qt_meaning_laws` proves them.
use Rattle.std.specs.Prelude.{◌≡◌, ℕ, suc, Bool, true, false, List, [], ◌∷◌, map}
use Rattle.qt_root2.specs.Real.{Real, zero_real, one_real, plus_real}
use Rattle.qt_mass.specs.Mass.{mass}
use Rattle.qt_ring.specs.declared.omega.Omega.{Omega}
use Rattle.qt_ring.specs.Ring.{nil, times}
use Rattle.qt_ring.specs.State.{State}
use Rattle.qt_ring.specs.Multiples.{scaled}
use Rattle.qt_typed.specs.declared.program.Typed.{Typed}
use Rattle.qt_meaning.specs.Points.{Event, Did, Chose, Point, Leaf, Signal}
use Rattle.qt_meaning.specs.Distribution.{AllLeaves, NotDry, Ends, run_of, leaves_of}
use Rattle.qt_meaning.specs.WellFormed.{IsWellFormed}

-- the masses of all leaves together
abbrev pub total : List Leaf → Real
total [] = zero_real
total (l ∷ ls) = plus_real (mass l.point.state) (total ls)

-- in a well formed program all masses of the leaves are together the mass of the root, which is one
abbrev pub MassIsKept : Typed → Type 0
MassIsKept typed = IsWellFormed typed → (fuel : ℕ) → total (leaves_of typed fuel) ≡ one_real

-- a leaf that was reached with one unit of fuel more: each choice on the way had one more left
abbrev pub with_more : Event → Event
with_more (Did primitive place) = Did primitive place
with_more (Chose place bit fuel number store) = Chose place bit (suc fuel) number store

abbrev pub with_unit : Leaf → Leaf
with_unit l = record l { point = record l.point { fuel = suc l.point.fuel; trail = map with_more l.point.trail } }

-- more fuel changes nothing where no leaf is dry
abbrev pub FuelSuffices : Typed → Type 0
FuelSuffices typed = (fuel : ℕ) → Ends typed fuel → leaves_of typed (suc fuel) ≡ map with_unit (leaves_of typed fuel)

-- a leaf with its state times a factor
abbrev pub state_times : Omega → State → State
state_times c s = record s { entries = scaled c s.entries }

abbrev pub point_times : Omega → Point → Point
point_times c p = record p { state = state_times c p.state }

abbrev pub leaf_times : Omega → Leaf → Leaf
leaf_times c l = record l { point = point_times c l.point }

-- a state times a factor other than 0 gives the same leaves times it
abbrev pub FactorsGoThrough : Typed → Type 0
FactorsGoThrough typed = (c : Omega) → (c ≡ nil → ⊥) → (p : Point) → run_of typed (point_times c p) ≡ map (leaf_times c) (run_of typed p)
