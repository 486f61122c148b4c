-- Measurements and resets (OpenQASM 3.0 live specification, "Built-in quantum instructions", measurement and reset; Cross et al. 2022).
-- A measurement gives, for the outcomes 0 and 1, the point with the state's projection and the outcome stored, where the projection isn't zero.
-- Vectors are never scaled. A reset stores nothing, and turns the qubit where it was 1. A register is measured qubit by qubit, in order.
use Rattle.std.specs.Prelude.{ℕ, zero, suc, Bool, true, false, List, [], ◌∷◌, ◌++◌, Option, Some, None, Result, Ok, Err}
use Rattle.qt_tree.specs.declared.place.Place.{Place}
use Rattle.qt_ring.specs.Places.{digit}
use Rattle.qt_ring.specs.State.{project, flip, vanishes}
use Rattle.qt_typed.specs.declared.call.TypedQubits.{TypedQubits}
use Rattle.qt_meaning.specs.Values.{Evaluated}
use Rattle.qt_meaning.specs.Places.{Location, bit_stored, Site, register_named, register_tested}
use Rattle.qt_meaning.specs.Points.{Event, Chose, Point, On, Leaf, Run, leaf, then_do, with_result, with_store, noted}

-- no leaf where the condition holds
abbrev pub unless : Bool → Run → Run
unless true next p = []
unless false next p = next p

-- what follows one outcome of a qubit
abbrev pub outcome : ℕ → Bool → Run → Run
outcome q bit next p = unless (vanishes (project q bit p.state)) next (record p { state = project q bit p.state })

-- the choice with that number had this outcome
abbrev pub chose : Place → ℕ → Bool → Point → Point
chose place number bit p = noted (Chose place bit p.fuel number p.store ∷ []) p

-- what the outcome does to the variables is done before the choice is noted
abbrev pub measured : Place → ℕ → ℕ → (ℕ → List ℕ → List ℕ) → Run
measured place number q keep p =
    outcome q false (λ r. leaf On (chose place number false (with_store (keep (digit false)) r))) p
    ++ outcome q true (λ r. leaf On (chose place number true (with_store (keep (digit true)) r))) p

abbrev pub reset : Place → ℕ → ℕ → Run
reset place number q p =
    outcome q false (λ r. leaf On (chose place number false r)) p
    ++ outcome q true (λ r. leaf On (chose place number true (record r { state = flip q r.state }))) p

-- ---- registers, after so many choices

-- the outcome of the qubit at place i goes to bit i
abbrev pub all_measured : Place → ℕ → List ℕ → ℕ → (ℕ → ℕ → List ℕ → List ℕ) → Run
all_measured place before [] i keep p = leaf On p
all_measured place before (q ∷ qs) i keep p = then_do (measured place (suc before) q (keep i)) (all_measured place (suc before) qs (suc i) keep) p

abbrev pub all_reset : Place → ℕ → List ℕ → Run
all_reset place before [] p = leaf On p
all_reset place before (q ∷ qs) p = then_do (reset place (suc before) q) (all_reset place (suc before) qs) p

-- ---- statements

-- where there is no target, the outcomes are dropped
abbrev pub kept : Option Location → ℕ → ℕ → List ℕ → List ℕ
kept None i bit store = store
kept (Some location) i bit store = bit_stored location i bit store

-- the qubit's index comes first, then the target's
abbrev pub measurement : Site → Place → TypedQubits → (List ℕ → Evaluated (Option Location)) → Run
measurement at place qubits target p =
    with_result (register_named at qubits p.store) place (λ ns.
    with_result (target p.store) place (λ location.
    with_result (register_tested at qubits ns) place (λ qs. all_measured place at.choices qs 0 (kept location)))) p

abbrev pub resetting : Site → Place → TypedQubits → Run
resetting at place qubits p =
    with_result (register_named at qubits p.store) place (λ ns.
    with_result (register_tested at qubits ns) place (λ qs. all_reset place at.choices qs)) p
