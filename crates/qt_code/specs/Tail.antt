-- What follows from an instruction of flat code: a run of the same form as that of a statement, with the leaves in order (flat code is this
-- profile's; OpenQASM 3.0 live specification, "Classical instructions" and "Quantum measurement and reset"; Cross et al. 2022). A leaf is
-- an end, a fault with its place, or dry. The number of a choice is its rank among the choices of the code, counted from 1. Between two
-- Ticks the run goes over the rest of the instructions; a jump back goes to a Tick, and each Tick spends a unit. So it has a value for
-- all code.
use Rattle.std.specs.Prelude.{ℕ, zero, suc, ◌+◌, ◌-◌, Bool, true, false, nat_lt, List, [], ◌∷◌, ◌++◌, slice_set}
use Rattle.std.specs.Int.{bit_at}
use Rattle.std.specs.List.{zip}
use Rattle.qt_tree.specs.declared.place.Place.{Place}
use Rattle.qt_value.specs.Types.{width_of}
use Rattle.qt_ring.specs.Matrix.{Operator, controlled, u_gate, phase_gate}
use Rattle.qt_ring.specs.State.{applied, zero_state}
use Rattle.qt_gate_calls.specs.Faults.{EighthPrimitive}
use Rattle.qt_gate_calls.specs.Matrices.{controlled_on_zero}
use Rattle.qt_gate_calls.specs.Primitives.{Turned, Phased}
use Rattle.qt_meaning.specs.Distribution.{AllLeaves, NotDry, NoFault}
use Rattle.qt_meaning.specs.Measuring.{measured, reset}
use Rattle.qt_meaning.specs.Points.{Did, Point, Ended, Dry, Leaf, Run, leaf, then_do, choose, with_result, put, noted}
use Rattle.qt_meaning.specs.Values.{is_true, with_bit, converted_to, slot_at}
use Rattle.qt_instructions.specs.declared.instruction.Instr.{Instr}
use Rattle.qt_instructions.specs.declared.instruction.Instr.TheVariants.{Tick, Load, Get, Put, GetAt, PutAt, BitGet, BitPut, Apply, Cast, Turns, AngleOp, Qubit, Distinct, Gate, Measure, Reset, Jump, JumpIf, End}
use Rattle.qt_instructions.specs.declared.instruction.Store.{Store}
use Rattle.qt_instructions.specs.declared.instruction.Store.TheVariants as store
use Rattle.qt_instructions.specs.declared.parts.Parts.{Parts}
use Rattle.qt_code.specs.Cells.{Cells, no_cells, with_cell, place_by, result_by, turns_by, phase_by, qubit_by, qubit_of, different_by, primitive_by, place_of_store}

-- ---- primitives as matrices

abbrev pub under_ones : List ℕ → Operator → Operator
under_ones [] g = g
under_ones (q ∷ qs) g = controlled (under_ones qs g)

abbrev pub under_zeros : List ℕ → Operator → Operator
under_zeros [] g = g
under_zeros (q ∷ qs) g = controlled_on_zero (under_zeros qs g)

-- first the controls that are to be 1, then those that are to be 0, then the qubit of U
abbrev pub operator_of : EighthPrimitive → Operator
operator_of (Turned ones zeros q theta phi lambda) = under_ones ones (under_zeros zeros (u_gate theta phi lambda))
operator_of (Phased ones zeros gamma) = under_ones ones (under_zeros zeros (phase_gate gamma))

abbrev pub operands_of : EighthPrimitive → List ℕ
operands_of (Turned ones zeros q theta phi lambda) = ones ++ (zeros ++ (q ∷ []))
operands_of (Phased ones zeros gamma) = ones ++ zeros

abbrev pub did : EighthPrimitive → Place → Point → Point
did e place p = noted (Did e place ∷ []) (record p { state = applied (operator_of e) (operands_of e) p.state })

-- ---- choices

abbrev pub choices_in : Instr → ℕ
choices_in (Measure q to) = 1
choices_in (Reset q) = 1
choices_in _ = 0

-- how many choices stand before an instruction
abbrev pub choices_before : ℕ → List Instr → ℕ
choices_before at [] = 0
choices_before zero (i ∷ is) = 0
choices_before (suc at) (i ∷ is) = choices_in i + choices_before at is

-- the outcome goes to the bit of a slot
abbrev pub stored_at : Store → ℕ → ℕ → List ℕ → List ℕ
stored_at store.Nowhere place bit slots = slots
stored_at (store.Bit slot at) place bit slots = slice_set slots slot (with_bit place bit (slot_at slots slot))
stored_at (store.BitAt slot cell) place bit slots = slice_set slots slot (with_bit place bit (slot_at slots slot))

-- ---- instructions

-- what follows, for what the cells hold
abbrev pub Next : Type 0
Next = Cells → Run

-- an instruction by its number `at` and its place: `ticked` is what follows a Tick before an instruction, `on` what follows this one, and
-- `to` what follows a jump to an instruction. Behind a choice all cells are 0
abbrev pub act : Parts → (ℕ → Next) → Place → Instr → ℕ → Next → (ℕ → Next) → Next
act code ticked place Tick at on to cells p = ticked (suc at) cells p
act code ticked place (Load cell bits) at on to cells p = on (with_cell cell bits cells) p
act code ticked place (Get cell slot) at on to cells p = on (with_cell cell (slot_at p.store slot) cells) p
act code ticked place (Put slot cell) at on to cells p = on cells (put slot (cells cell) p)
act code ticked place (GetAt cell first count index) at on to cells p =
    with_result (place_by count index cells) place (λ n. on (with_cell cell (slot_at p.store (first + n)) cells)) p
act code ticked place (PutAt first count index cell) at on to cells p =
    with_result (place_by count index cells) place (λ n q. on cells (put (first + n) (cells cell) q)) p
act code ticked place (BitGet cell of index) at on to cells p =
    with_result (place_by (width_of of.kind) index cells) place (λ n. on (with_cell cell (bit_at (cells of.cell) n) cells)) p
act code ticked place (BitPut of index bit) at on to cells p =
    with_result (place_by (width_of of.kind) index cells) place
    (λ n. on (with_cell of.cell (with_bit n (bit_at (cells bit) 0) (cells of.cell)) cells)) p
act code ticked place (Apply cell operation) at on to cells p =
    with_result (result_by operation cells) place (λ x. on (with_cell cell x cells)) p
act code ticked place (Cast cell from kind) at on to cells p = on (with_cell cell (converted_to kind from.kind (cells from.cell)) cells) p
act code ticked place (Turns cell first step last) at on to cells p =
    with_result (turns_by first step last cells) place (λ n. on (with_cell cell n cells)) p
act code ticked place (AngleOp cell operation) at on to cells p =
    with_result (phase_by operation cells) place (λ x. on (with_cell cell x cells)) p
act code ticked place (Qubit cell qubits index) at on to cells p =
    with_result (qubit_by qubits index cells) place (λ q. on (with_cell cell q cells)) p
act code ticked place (Distinct qubits) at on to cells p = with_result (different_by code.qubits qubits cells) place (λ qs. on cells) p
act code ticked place (Gate primitive) at on to cells p =
    with_result (primitive_by code.qubits primitive cells) place (λ e q. on cells (did e place q)) p
act code ticked place (Measure reference to_bit) at on to cells p =
    with_result (qubit_of code.qubits reference cells) place (λ q. with_result (place_of_store to_bit cells) place (λ n.
    then_do (measured place (suc (choices_before at code.instructions)) q (stored_at to_bit n)) (on no_cells))) p
act code ticked place (Reset reference) at on to cells p =
    with_result (qubit_of code.qubits reference cells) place (λ q.
    then_do (reset place (suc (choices_before at code.instructions)) q) (on no_cells)) p
act code ticked place (Jump target) at on to cells p = to target cells p
act code ticked place (JumpIf condition target) at on to cells p = choose (is_true (cells condition)) (to target cells) (on cells) p
act code ticked place End at on to cells p = leaf Ended p

-- ---- code

-- a jump ahead, or back to a Tick
abbrev pub goes : Bool → Next → Next → Next
goes true ahead back = ahead
goes false ahead back = back

-- the instructions up to the next Tick, of which so many are passed first
abbrev pub exec : Parts → (ℕ → Next) → List (Instr × Place) → ℕ → ℕ → Next
exec code ticked [] at skip cells p = []
exec code ticked (l ∷ ls) at zero cells p =
    act code ticked l.1 l.0 at (exec code ticked ls (suc at) 0)
    (λ t. goes (nat_lt at t) (exec code ticked ls (suc at) (t - suc at)) (ticked (suc t))) cells p
exec code ticked (l ∷ ls) at (suc skip) cells p = exec code ticked ls (suc at) skip cells p

abbrev pub lines : Parts → List (Instr × Place)
lines code = zip code.instructions code.places

-- a Tick before an instruction, with so much fuel, and what follows it
abbrev pub spent : Parts → ℕ → ℕ → Next
spent code zero at cells p = leaf Dry p
spent code (suc fuel) at cells p = exec code (spent code fuel) (lines code) 0 at cells (record p { fuel = fuel })

-- what follows from an instruction
abbrev pub tail : Parts → ℕ → Next
tail code at cells p = exec code (spent code p.fuel) (lines code) 0 at cells p

-- ---- from the beginning

-- the slots as they are at the beginning, all qubits in 0, all fuel
abbrev pub root_of : Parts → ℕ → Point
root_of code fuel = record { store = code.start; state = zero_state code.qubits; fuel = fuel; trail = [] }

abbrev pub leaves_from_start : Parts → ℕ → List Leaf
leaves_from_start code fuel = tail code 0 no_cells (root_of code fuel)

-- the fuel suffices on every path
abbrev pub CodeEnds : Parts → ℕ → Type 0
CodeEnds code fuel = AllLeaves NotDry (leaves_from_start code fuel)

-- no path faults
abbrev pub CodeIsClean : Parts → ℕ → Type 0
CodeIsClean code fuel = AllLeaves NoFault (leaves_from_start code fuel)
