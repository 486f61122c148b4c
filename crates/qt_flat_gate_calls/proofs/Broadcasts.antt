-- The code of a broadcast does what its calls mean, one after another.
use Rattle.std.proofs.Common.{◌≡◌, ℕ, zero, suc, ◌+◌, ◌<◌, ◌≤◌, List, [], ◌∷◌, ◌++◌, refl, sym, subst, arith}
use Rattle.qt_tree.specs.declared.place.Place.{Place}
use Rattle.qt_registers.specs.declared.fixed.FixedQubit.{FixedQubit}
use Rattle.qt_typed.specs.declared.call.GateUse.{GateUse}
use Rattle.qt_typed.specs.declared.call.TypedQubit.{TypedQubit}
use Rattle.qt_typed.specs.declared.call.TypedQubits.{TypedQubits}
use Rattle.qt_typed.specs.declared.call.TypedQubits.TheVariants as qubits
use Rattle.qt_meaning.specs.Applying.{calls_from, fixed_at, gate_call, operands_at}
use Rattle.qt_meaning.specs.Places.{Site}
use Rattle.qt_meaning.specs.WellFormed.{Scope, UseFits}
use Rattle.qt_meaning_laws.proofs.Named.{operands_are}
use Rattle.qt_instructions.specs.declared.parts.Parts.{Parts}
use Rattle.qt_flat_code.specs.GateCalls.{broadcast_code, broadcast_length, gate_call_code, gate_call_length}
use Rattle.qt_flat_expressions.specs.Lands.{StandsAt}
use Rattle.qt_flat_expressions.proofs.Standing.{stands_behind, stands_first}
use Rattle.qt_flat_gate_calls.specs.Fits.{BroadcastFits, GateCallFits, IndexesFit, OperandIndexesFit, SiteFits}
use Rattle.qt_flat_gate_calls.specs.Landing.{RunLands}
use Rattle.qt_flat_gate_calls.specs.Laws.{BroadcastsLand}
use Rattle.qt_flat_gate_calls.proofs.Calls.{call_long, gate_calls_land}
use Rattle.qt_flat_gate_calls.proofs.Following.{lands_here, lands_then}

-- ---- the call at a place

fixed_indexes : (slots place : ℕ) (register : List FixedQubit) (rest : List TypedQubit) → IndexesFit slots rest
    → IndexesFit slots (fixed_at place register ++ rest)
fixed_indexes slots place [] rest h = h
fixed_indexes slots zero (q ∷ qs) rest h = (tt, h)
fixed_indexes slots (suc place) (q ∷ qs) rest h = fixed_indexes slots place qs rest h

indexes_at : (slots place : ℕ) (operands : List TypedQubits) → OperandIndexesFit slots operands → IndexesFit slots (operands_at place operands)
indexes_at slots place [] h = tt
indexes_at slots place (qubits.Single q ∷ rest) h = (h.0, indexes_at slots place rest h.1)
indexes_at slots place (qubits.Register register ∷ rest) h = fixed_indexes slots place register (operands_at place rest) (indexes_at slots place rest h.1)

module _ (scope : Scope) (site : Site) (slots : ℕ) (used : GateUse) (operands : List TypedQubits) (size : ℕ)
    (fits : BroadcastFits scope site slots used operands size) where
  fits_at : (place : ℕ) → place < size → GateCallFits scope site slots used (operands_at place operands)
  fits_at place l =
      let are = operands_are scope size place operands l fits.qubits in
      record {
        gates = fits.gates;
        called = subst (λ n. UseFits scope n used) (sym are.0) fits.called;
        qubits = are.1;
        arguments = fits.arguments;
        indexes = indexes_at slots place operands fits.indexes;
        accepted = fits.accepted place l;
        differ = fits.differ place l;
      }

  -- ---- all of them

  module _ (code : Parts) (place : Place) (same : site.qubits ≡ code.qubits) (stands : SiteFits scope site) where
    calls_land : (i count at to : ℕ) → i + count ≤ size → StandsAt code place at (broadcast_code site used operands i count at)
        → at + broadcast_length site used operands i count ≡ to → RunLands code at to (calls_from site place used operands i count)
    calls_land i zero at to l h t = lands_here code at to (omega (arith, t))
    calls_land i (suc count) at to l h t =
        let here = operands_at i operands in
        let n = gate_call_length site used here in
        let mid = at + n in
        let a = gate_call_code site used here at in
        let b = broadcast_code site used operands (suc i) count mid in
        lands_then code at mid to (gate_call site place used here) (calls_from site place used operands (suc i) count)
        (gate_calls_land code place scope site slots used here at same stands (fits_at i (omega arith)) (stands_first code place at a b h))
        (calls_land (suc i) count mid to (omega arith) (stands_behind code place at a b n (call_long site used here at).long h) (omega (arith, t)))

pub broadcasts_land : BroadcastsLand
broadcasts_land code place scope site slots used operands size at same stands fits h =
    calls_land scope site slots used operands size fits code place same stands 0 size at (at + broadcast_length site used operands 0 size) (omega arith) h refl
