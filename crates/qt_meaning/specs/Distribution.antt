-- The distribution of a program: to each output value its probability (OpenQASM 3.0 live specification, "Quantum measurement and reset" and
-- "Input/output"; Cross et al. 2022). It is the sum of |v|² over the leaves in which the program ended with that value, v being the vector there,
-- which is never scaled. A program of which some leaf ran out of fuel or faulted has no distribution of its own.
use Rattle.std.specs.Prelude.{◌≡◌, ℕ, zero, suc, ◌*◌, Bool, true, false, nat_eq, ◌&&◌, List, [], ◌∷◌, ◌++◌, replicate, slice_set}
use Rattle.qt_root2.specs.Real.{Real, zero_real, plus_real}
use Rattle.qt_mass.specs.Mass.{mass}
use Rattle.qt_ring.specs.State.{zero_state}
use Rattle.qt_typed.specs.declared.program.StartValue.{StartValue}
use Rattle.qt_typed.specs.declared.program.TypedOutput.{TypedOutput}
use Rattle.qt_typed.specs.declared.program.Typed.{Typed}
use Rattle.qt_typed.specs.Choices.{subroutine_choices}
use Rattle.qt_meaning.specs.Values.{slots_from}
use Rattle.qt_meaning.specs.Places.{Site}
use Rattle.qt_meaning.specs.Points.{Point, On, Ended, Faulted, Dry, Signal, Leaf, Run, leaf}
use Rattle.qt_meaning.specs.Statements.{list_tree, calls_of}

-- ---- the whole program

abbrev pub started : List StartValue → List ℕ → List ℕ
started [] store = store
started (s ∷ ss) store = started ss (slice_set store s.slot s.bits)

-- all variables zero but for the inputs, all qubits in 0, all fuel
abbrev pub root : Typed → ℕ → Point
root typed fuel = record { store = started typed.start (replicate typed.slots 0); state = zero_state typed.qubits; fuel = fuel; trail = [] }

abbrev pub main_site : Typed → Site
main_site typed = record { choices = 0; base = 0; qubits = typed.qubits; registers = λ i. [] }

abbrev pub run_of : Typed → Run
run_of typed =
    list_tree (subroutine_choices typed.subroutines) (calls_of 0 typed.subroutines (λ i. 0) (λ i given at. leaf On)) typed.body (main_site typed)

abbrev pub leaves_of : Typed → ℕ → List Leaf
leaves_of typed fuel = run_of typed (root typed fuel)

-- ---- what the leaves tell

abbrev pub has_ended : Signal → Bool
has_ended On = true
has_ended Ended = true
has_ended s = false

abbrev pub element_count : List ℕ → ℕ
element_count [] = 1
element_count (length ∷ lengths) = length * element_count lengths

-- the values of the outputs, in their order
abbrev pub output_value : List TypedOutput → List ℕ → List ℕ
output_value [] store = []
output_value (o ∷ os) store = slots_from store o.slot (element_count o.lengths) ++ output_value os store

abbrev pub same_values : List ℕ → List ℕ → Bool
same_values [] [] = true
same_values (x ∷ xs) (y ∷ ys) = nat_eq x y && same_values xs ys
same_values _ _ = false

-- the number where the condition holds, and else 0
abbrev pub part : Bool → Real → Real
part true x = x
part false x = zero_real

-- what an output value has of some leaves
abbrev pub share : List TypedOutput → List Leaf → List ℕ → Real
share outputs [] output = zero_real
share outputs (l ∷ ls) output =
    plus_real (part (has_ended l.signal && same_values (output_value outputs l.point.store) output) (mass l.point.state)) (share outputs ls output)

-- the probability of an output value
abbrev pub probability : Typed → ℕ → List ℕ → Real
probability typed fuel output = share typed.outputs (leaves_of typed fuel) output

-- ---- where it is a distribution

abbrev pub AllLeaves : (Signal → Type 0) → List Leaf → Type 0
AllLeaves P [] = Unit {0}
AllLeaves P (l ∷ ls) = P l.signal × AllLeaves P ls

abbrev pub NotDry : Signal → Type 0
NotDry Dry = ⊥
NotDry s = Unit {0}

abbrev pub NoFault : Signal → Type 0
NoFault (Faulted fault place) = ⊥
NoFault s = Unit {0}

-- the fuel suffices on every path
abbrev pub Ends : Typed → ℕ → Type 0
Ends typed fuel = AllLeaves NotDry (leaves_of typed fuel)

-- no path faults
abbrev pub IsClean : Typed → ℕ → Type 0
IsClean typed fuel = AllLeaves NoFault (leaves_of typed fuel)
