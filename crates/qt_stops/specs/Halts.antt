-- What instructions on values come to, as the code answers it: the next gate, or a stop (flat code is this profile's; OpenQASM 3.0 live
-- specification, "Classical instructions").
use Rattle.std.specs.Prelude.{◌≡◌, ℕ, ◌+◌, ◌*◌, ◌-◌, ◌<◌, if◌then◌else◌, Bool, not, ◌&&◌, IsTrue, List, length, slice_get, Some}
use Rattle.qt_ring.specs.State.{State}
use Rattle.qt_gate_calls.specs.Faults.{EighthPrimitive}
use Rattle.qt_instructions.specs.declared.instruction.Instr.{Instr}
use Rattle.qt_instructions.specs.declared.parts.Parts.{Parts}
use Rattle.qt_instructions.specs.Targets.{stops}
use Rattle.qt_code_rules.specs.Jumps.{is_tick}
use Rattle.qt_code.specs.Cells.{Cells}
use Rattle.qt_kernel.specs.Primitives.{IsPrim}
use Rattle.qt_machine.specs.Faults.{fault_of}
use Rattle.qt_resolved_gates.specs.Resolved.{ActsAs}
use Rattle.qt_stops.specs.declared.step.Halt.{Halt}
use Rattle.qt_stops.specs.declared.step.Halt.TheVariants as halt
use Rattle.qt_stops.specs.declared.step.Way.{Way}
use Rattle.qt_stops.specs.declared.step.Way.TheVariants as way
use Rattle.qt_stops.specs.Stops.{Moment, Ends, Faults, Dries, Measures, Resets, Stop, Step, Goes, Turns, Stops, follows, Reaches, IsStop}

abbrev pub moment : List ℕ → State → ℕ → Moment
moment slots state fuel = record { slots = slots; state = state; fuel = fuel }

-- a gate or a stop, with the cells and slots that are left; any state may stand beside them
abbrev pub IsHalt : ℕ → Step → Halt → Cells → List ℕ → State → Type 0
IsHalt n s (halt.End fuel) cells slots state = s ≡ Stops (Ends (moment slots state fuel))
IsHalt n s (halt.Fault fault place) cells slots state = s ≡ Stops (Faults (fault_of fault) place)
IsHalt n s halt.Dry cells slots state = s ≡ Stops Dries
IsHalt n s (halt.Gate at place prim fuel) cells slots state =
    (e : EighthPrimitive) × ((s ≡ Turns e place at cells (moment slots state fuel)) × (IsPrim n prim × ActsAs n e prim))
IsHalt n s (halt.Measure at place q to bit fuel) cells slots state =
    (s ≡ Stops (Measures at place q to bit (moment slots state fuel))) × ((q < n) × (bit < 64))
IsHalt n s (halt.Reset at place q fuel) cells slots state = (s ≡ Stops (Resets at place q (moment slots state fuel))) × (q < n)

abbrev pub IsWay : ℕ → Step → Way → Cells → List ℕ → State → Type 0
IsWay n s (way.On at fuel) cells slots state = s ≡ Goes at cells (moment slots state fuel)
IsWay n s (way.Halt h) cells slots state = IsHalt n s h cells slots state

-- a gate or a choice is that of the instruction before, which neither ends the run nor spends fuel
abbrev pub IsBehind : ℕ → ℕ → Halt → Type 0
IsBehind at fuel (halt.Gate to place prim left) = (to ≡ at + 1) × (left ≡ fuel)
IsBehind at fuel (halt.Measure to place q store bit left) = (to ≡ at + 1) × (left ≡ fuel)
IsBehind at fuel (halt.Reset to place q left) = (to ≡ at + 1) × (left ≡ fuel)
IsBehind at fuel _ = Unit {0}

abbrev pub goes_on : Instr → Bool
goes_on i = not (stops i) && not (is_tick (Some i))

abbrev pub IsWayBehind : ℕ → ℕ → Instr → Way → Type 0
IsWayBehind at fuel i (way.On to left) = Unit {0}
IsWayBehind at fuel i (way.Halt (halt.Gate to place prim left)) = (to ≡ at + 1) × (left ≡ fuel) × IsTrue (goes_on i)
IsWayBehind at fuel i (way.Halt (halt.Measure to place q store bit left)) = (to ≡ at + 1) × (left ≡ fuel) × IsTrue (goes_on i)
IsWayBehind at fuel i (way.Halt (halt.Reset to place q left)) = (to ≡ at + 1) × (left ≡ fuel) × IsTrue (goes_on i)
IsWayBehind at fuel i (way.Halt _) = Unit {0}

-- what follows a step is what follows from a point
abbrev pub Leads : Parts → ℕ → Cells → Moment → Step → Type 0
Leads code at cells m s = (k : ℕ) (t : Stop) → follows (Reaches code k) s t → IsStop code at cells m t

-- a jump back goes to a Tick, which spends a unit of fuel
abbrev pub left_before_tick : Parts → ℕ → ℕ
left_before_tick code at = (if is_tick (slice_get code.instructions at) then 0 else length code.instructions - at)

abbrev pub measure : Parts → ℕ → ℕ → ℕ
measure code at fuel = fuel * (length code.instructions + 1) + left_before_tick code at

-- behind a gate or a choice there is an instruction, and less is left
abbrev pub IsOnward : Parts → ℕ → Halt → Type 0
IsOnward code all (halt.Gate at place prim fuel) = (at < length code.instructions) × (measure code at fuel < all)
IsOnward code all (halt.Measure at place q store bit fuel) = (at < length code.instructions) × (measure code at fuel < all)
IsOnward code all (halt.Reset at place q fuel) = (at < length code.instructions) × (measure code at fuel < all)
IsOnward code all _ = Unit {0}
