-- Runs: what follows from a point of the execution (OpenQASM 3.0 live specification, "Classical instructions" and "Quantum measurement and
-- reset"; Cross et al. 2022). A run goes from a point to the list of the leaves that it ends in, in order. A statement's leaf has a signal,
-- which says how execution goes on from there.
use Rattle.std.specs.Prelude.{ℕ, zero, suc, ◌+◌, Bool, true, false, List, [], ◌∷◌, ◌++◌, slice_set, Result, Ok, Err}
use Rattle.std.specs.List.{flat_map}
use Rattle.qt_tree.specs.declared.place.Place.{Place}
use Rattle.qt_ring.specs.State.{State}
use Rattle.qt_gate_calls.specs.Faults.{EighthPrimitive}
use Rattle.qt_typed.specs.declared.call.Span.{Span}
use Rattle.qt_meaning.specs.Values.{Fault, Evaluated}

-- what was done on the way to a point: a primitive was applied; a choice had an outcome, with the fuel that was left, the number of the choice
-- in the order of text, and the slots after it
pub data Event : Type 0 where
  Did : EighthPrimitive → Place → Event
  Chose : Place → Bool → ℕ → ℕ → List ℕ → Event

-- the values of all slots, the state of all qubits, the fuel that is left, and what was done so far
pub record Point : Type 0 where
  pub store : List ℕ
  pub state : State
  pub fuel : ℕ
  pub trail : List Event

pub data Signal : Type 0 where
  On : Signal
  Broken : Signal
  Continued : Signal
  Returned : Signal
  Ended : Signal
  Faulted : Fault → Place → Signal
  Dry : Signal

pub record Leaf : Type 0 where
  pub signal : Signal
  pub point : Point

abbrev pub Run : Type 0
Run = Point → List Leaf

abbrev pub leaf : Signal → Run
leaf s p = record { signal = s; point = p } ∷ []

-- the execution goes on from a point
abbrev pub go : (Point → Point) → Run
go f p = leaf On (f p)

-- ---- one after the other

abbrev pub go_on : Run → Signal → Run
go_on next On p = next p
go_on next s p = leaf s p

abbrev pub then_do : Run → Run → Run
then_do first next p = flat_map (λ l. go_on next l.signal l.point) (first p)

abbrev pub choose : Bool → Run → Run → Run
choose true a b p = a p
choose false a b p = b p

-- what follows a result; a fault has the place of its statement
abbrev pub with_result : {A : Type 0} → Evaluated A → Place → (A → Run) → Run
with_result (Ok a) place next p = next a p
with_result (Err fault) place next p = leaf (Faulted fault place) p

-- ---- fuel: each statement and each turn of a loop spends a unit before anything else of it

abbrev pub spend_of : ℕ → Run → Run
spend_of zero next p = leaf Dry p
spend_of (suc fuel) next p = next (record p { fuel = fuel })

abbrev pub spend : Run → Run
spend next p = spend_of p.fuel next p

-- ---- stores and scopes

abbrev pub with_store : (List ℕ → List ℕ) → Point → Point
with_store f p = record p { store = f p.store }

abbrev pub put : ℕ → ℕ → Point → Point
put slot bits p = with_store (λ s. slice_set s slot bits) p

-- so many slots from the first on become 0
abbrev pub cleared : ℕ → ℕ → List ℕ → List ℕ
cleared first zero s = s
cleared first (suc n) s = cleared (suc first) n (slice_set s first 0)

-- the slots of a span in a frame become 0
abbrev pub clear : ℕ → Span → Point → Point
clear base span p = with_store (cleared (base + span.first) span.count) p

-- a scope: at its end its slots become 0
abbrev pub scoped : ℕ → Span → Run → Run
scoped base span run = then_do run (go (clear base span))

abbrev pub noted : List Event → Point → Point
noted events p = record p { trail = p.trail ++ events }
