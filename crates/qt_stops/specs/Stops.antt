-- From a point of the run of flat code to its next stop: an end, a fault, want of fuel, or a choice (flat code is this profile's; OpenQASM 3.0
-- live specification, "Classical instructions", "Quantum measurement and reset"; Cross et al. 2022). The instructions are followed one by one.
-- The state is kept over its least power of two; a primitive whose product is too large is a stop too.
use Rattle.std.specs.Prelude.{◌≡◌, ℕ, zero, suc, ◌+◌, ◌-◌, nat_eq, ◌⊎◌, if◌then◌else◌, List, slice_get, Option, Some, Ok, Err}
use Rattle.qt_tree.specs.declared.place.Place.{Place}
use Rattle.qt_ring.specs.State.{State, applied}
use Rattle.qt_ring.specs.Multiples.{IsReduced}
use Rattle.qt_vector.specs.States.{IsBounded}
use Rattle.qt_gate_calls.specs.Faults.{EighthPrimitive}
use Rattle.qt_meaning.specs.Values.{Fault, Evaluated, is_true}
use Rattle.qt_instructions.specs.declared.instruction.Instr.{Instr}
use Rattle.qt_instructions.specs.declared.instruction.Instr.TheVariants.{Tick, Gate, Measure, Reset, Jump, JumpIf, End}
use Rattle.qt_instructions.specs.declared.instruction.Store.{Store}
use Rattle.qt_instructions.specs.declared.parts.Parts.{Parts}
use Rattle.qt_code.specs.Cells.{Cells, qubit_of, primitive_by, place_of_store}
use Rattle.qt_code.specs.Tail.{operator_of, operands_of}
use Rattle.qt_machine.specs.declared.write.Write.{Write}
use Rattle.qt_machine.specs.Writes.{write_by, written_cells, written_slots}

-- ---- points and stops

-- the values of all slots, the state of all qubits, and the fuel that is left
pub record Moment : Type 0 where
  pub slots : List ℕ
  pub state : State
  pub fuel : ℕ

-- a choice has the number of the instruction behind it, its place and its qubit; a measurement also where the outcome goes
pub data Stop : Type 0 where
  Ends : Moment → Stop
  Faults : Fault → Place → Stop
  Dries : Stop
  TooLarge : Place → Stop
  Measures : ℕ → Place → ℕ → Store → ℕ → Moment → Stop
  Resets : ℕ → Place → ℕ → Moment → Stop

-- ---- one instruction

-- it goes on at an instruction, applies a primitive before that, or stops
pub data Step : Type 0 where
  Goes : ℕ → Cells → Moment → Step
  Turns : EighthPrimitive → Place → ℕ → Cells → Moment → Step
  Stops : Stop → Step
  Nowhere : Step

-- what follows a result; a fault has the place of its statement
abbrev pub after : {A : Type 0} → Evaluated A → Place → (A → Step) → Step
after (Ok a) place next = next a
after (Err fault) place next = Stops (Faults fault place)

abbrev pub tick_step : ℕ → Cells → Moment → Step
tick_step at cells m = (if nat_eq m.fuel 0 then Stops Dries else Goes (at + 1) cells (record m { fuel = m.fuel - 1 }))

abbrev pub gate_step : ℕ → Place → Cells → Moment → EighthPrimitive → Step
gate_step at place cells m e = Turns e place (at + 1) cells m

abbrev pub write_step : ℕ → Cells → Moment → Write → Step
write_step at cells m w = Goes (at + 1) (written_cells w cells) (record m { slots = written_slots w m.slots })

-- of n qubits; the instruction has the number `at`
abbrev pub instruction_step : ℕ → ℕ → Instr → Place → Cells → Moment → Step
instruction_step n at Tick place cells m = tick_step at cells m
instruction_step n at (Gate p) place cells m = after (primitive_by n p cells) place (gate_step at place cells m)
instruction_step n at (Measure q to) place cells m =
    after (qubit_of n q cells) place (λ q. after (place_of_store to cells) place (λ bit. Stops (Measures (at + 1) place q to bit m)))
instruction_step n at (Reset q) place cells m = after (qubit_of n q cells) place (λ q. Stops (Resets (at + 1) place q m))
instruction_step n at (Jump to) place cells m = Goes to cells m
instruction_step n at (JumpIf condition to) place cells m = Goes (if is_true (cells condition) then to else at + 1) cells m
instruction_step n at End place cells m = Stops (Ends m)
instruction_step n at i place cells m =
    after (write_by n i cells m.slots) place (write_step at cells m)

abbrev pub line_step : ℕ → ℕ → Option Instr → Option Place → Cells → Moment → Step
line_step n at (Some i) (Some place) cells m = instruction_step n at i place cells m
line_step n at _ _ cells m = Nowhere

-- behind the last instruction there is nothing
abbrev pub step : Parts → ℕ → Cells → Moment → Step
step code at cells m = line_step code.qubits at (slice_get code.instructions at) (slice_get code.places at) cells m

-- ---- up to a stop

-- the exact product over its least power of two is within bounds, and the run goes on with it, or it isn't
pub record IsProduct (e : EighthPrimitive) (s t : State) : Type 0 where
  pub reduced : IsReduced (applied (operator_of e) (operands_of e) s) t

abbrev pub follows : (ℕ → Cells → Moment → Stop → Type 0) → Step → Stop → Type 0
follows next (Goes at cells m) s = next at cells m s
follows next (Turns e place at cells m) s =
    (t : State) × (IsProduct e m.state t × ((IsBounded t × next at cells (record m { state = t }) s) ⊎ ((IsBounded t → ⊥) × (s ≡ TooLarge place))))
follows next (Stops t) s = s ≡ t
follows next Nowhere s = ⊥

-- after fewer than so many instructions
abbrev pub Reaches : Parts → ℕ → ℕ → Cells → Moment → Stop → Type 0
Reaches code zero at cells m s = ⊥
Reaches code (suc k) at cells m s = follows (Reaches code k) (step code at cells m) s

-- the stop of the run from an instruction
abbrev pub IsStop : Parts → ℕ → Cells → Moment → Stop → Type 0
IsStop code at cells m s = (k : ℕ) × Reaches code k at cells m s
