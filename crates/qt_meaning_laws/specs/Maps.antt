-- Maps of states that go through programs (OpenQASM 3.0 live specification, "Quantum measurement and reset"; Cross et al. 2022). Where a
-- map goes with all that programs do to states, a program has from the map of a state the same leaves, with the map of each leaf's state.
use Rattle.std.specs.Prelude.{◌≡◌, ℕ, Bool, List, map}
use Rattle.qt_ring.specs.Matrix.{Operator}
use Rattle.qt_ring.specs.State.{State, applied, project, flip, vanishes}
use Rattle.qt_typed.specs.declared.program.Typed.{Typed}
use Rattle.qt_meaning.specs.Points.{Point, Leaf}
use Rattle.qt_meaning.specs.Distribution.{run_of}

-- it goes with gates, projections and flips, and a state is zero where its image is
pub record GoesWithStates (f : State → State) : Type 0 where
  pub gates : (g : Operator) (qs : List ℕ) (s : State) → applied g qs (f s) ≡ f (applied g qs s)
  pub projections : (q : ℕ) (b : Bool) (s : State) → project q b (f s) ≡ f (project q b s)
  pub flips : (q : ℕ) (s : State) → flip q (f s) ≡ f (flip q s)
  pub zeros : (s : State) → vanishes (f s) ≡ vanishes s

abbrev pub point_by : (State → State) → Point → Point
point_by f p = record p { state = f p.state }

abbrev pub leaf_by : (State → State) → Leaf → Leaf
leaf_by f l = record l { point = point_by f l.point }

abbrev pub MapsGoThrough : Typed → Type 0
MapsGoThrough typed = (f : State → State) → GoesWithStates f → (p : Point) → run_of typed (point_by f p) ≡ map (leaf_by f) (run_of typed p)
