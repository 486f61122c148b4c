-- Which primitives of a call a run applies (OpenQASM 3.0 live specification, "Gates"; Cross et al. 2022; that all angles are multiples of π/4
-- is this profile's). All angles of a call are reckoned before its first primitive; then the primitives are applied in order, up to the first
-- with an angle that is no multiple of π/4.
use Rattle.std.specs.Prelude.{ℕ, ℤ, Bool, true, false, ◌&&◌, List, [], ◌∷◌, Option, Some, None}
use Rattle.qt_phase.specs.Phase.{eighth_of}
use Rattle.qt_gate_calls.specs.Units.{KnownUnits, eighth_known}
use Rattle.qt_gate_calls.specs.Primitives.{PrimitiveOf, Turned, Phased, Primitive}

-- ---- before the run: the units of the first angle that is known and no multiple of π/4, in the order of primitives, then of θ, φ, λ

abbrev pub unless_eighth : ℤ → Option ℕ → Option ℤ
unless_eighth units None = Some units
unless_eighth units (Some eighths) = None

abbrev pub wrong : KnownUnits → Option ℤ
wrong None = None
wrong (Some units) = unless_eighth units (eighth_of units)

abbrev pub or_later : Option ℤ → Option ℤ → Option ℤ
or_later None later = later
or_later (Some units) later = Some units

abbrev pub first_wrong : List Primitive → Option ℤ
first_wrong [] = None
first_wrong (Turned ones zeros q theta phi lambda ∷ ps) = or_later (wrong theta) (or_later (wrong phi) (or_later (wrong lambda) (first_wrong ps)))
first_wrong (Phased ones zeros gamma ∷ ps) = or_later (wrong gamma) (first_wrong ps)

-- ---- in the run

abbrev pub is_known : KnownUnits → Bool
is_known None = false
is_known (Some units) = true

abbrev pub all_reckoned : List Primitive → Bool
all_reckoned [] = true
all_reckoned (Turned ones zeros q theta phi lambda ∷ ps) = (is_known theta && is_known phi && is_known lambda) && all_reckoned ps
all_reckoned (Phased ones zeros gamma ∷ ps) = is_known gamma && all_reckoned ps

-- a primitive with its angles as numbers of π/4
abbrev pub EighthPrimitive : Type 0
EighthPrimitive = PrimitiveOf ℕ ℕ

abbrev pub turned_by : List ℕ → List ℕ → ℕ → Option ℕ → Option ℕ → Option ℕ → Option EighthPrimitive
turned_by ones zeros q (Some theta) (Some phi) (Some lambda) = Some (Turned ones zeros q theta phi lambda)
turned_by ones zeros q _ _ _ = None

abbrev pub phased_by : List ℕ → List ℕ → Option ℕ → Option EighthPrimitive
phased_by ones zeros (Some gamma) = Some (Phased ones zeros gamma)
phased_by ones zeros None = None

abbrev pub with_eighths : Primitive → Option EighthPrimitive
with_eighths (Turned ones zeros q theta phi lambda) = turned_by ones zeros q (eighth_known theta) (eighth_known phi) (eighth_known lambda)
with_eighths (Phased ones zeros gamma) = phased_by ones zeros (eighth_known gamma)

-- the primitives that are applied, and whether they are all of the call
pub record Applied : Type 0 where
  pub primitives : List EighthPrimitive
  pub complete : Bool

abbrev pub behind : Option EighthPrimitive → Applied → Applied
behind None rest = record { primitives = []; complete = false }
behind (Some p) rest = record { primitives = p ∷ rest.primitives; complete = rest.complete }

abbrev pub up_to_fault : List Primitive → Applied
up_to_fault [] = record { primitives = []; complete = true }
up_to_fault (p ∷ ps) = behind (with_eighths p) (up_to_fault ps)

abbrev pub applied_if : Bool → List Primitive → Applied
applied_if false ps = record { primitives = []; complete = false }
applied_if true ps = up_to_fault ps

abbrev pub applied_of : List Primitive → Applied
applied_of ps = applied_if (all_reckoned ps) ps
