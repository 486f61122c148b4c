-- A program that is well formed: a subroutine with a register as its parameter, a broadcast, gates, a measurement and a reset.
use Rattle.std.proofs.Common.{◌≡◌, ℕ, List, [], ◌∷◌, None, Some, refl, arith}
use Rattle.std.specs.List.{All}
use Rattle.qt_tree.specs.declared.place.Place.{Place}
use Rattle.qt_root2.specs.Real.{one_real}
use Rattle.qt_value.specs.declared.types.ValueType.TheVariants as kind
use Rattle.qt_gate_calls.specs.Numbered.{if_number}
use Rattle.qt_gate_calls.specs.Standard.{standard_gates, standard_bodies}
use Rattle.qt_gate_calls.specs.declared.body.Called.TheVariants as called
use Rattle.qt_gate_calls.specs.declared.body.GateModifier.{GateModifier}
use Rattle.qt_gate_calls.specs.declared.body.GateModifier.TheVariants as modifier
use Rattle.qt_registers.specs.declared.fixed.FixedQubit.{FixedQubit}
use Rattle.qt_registers.specs.declared.fixed.FixedQubit.TheVariants as fixed
use Rattle.qt_typed.specs.declared.call.GateUse.{GateUse}
use Rattle.qt_typed.specs.declared.call.TypedQubit.TheVariants as qubit
use Rattle.qt_typed.specs.declared.call.TypedQubits.TheVariants as qubits
use Rattle.qt_typed.specs.declared.program.Typed.{Typed}
use Rattle.qt_typed.specs.declared.program.TypedParameter.TheVariants as parameter
use Rattle.qt_typed.specs.declared.program.TypedSubroutine.{TypedSubroutine}
use Rattle.qt_typed.specs.declared.statement.TypedAction.{TypedAction}
use Rattle.qt_typed.specs.declared.statement.TypedAction.TheVariants as action
use Rattle.qt_typed.specs.declared.statement.TypedRight.TheVariants as right
use Rattle.qt_typed.specs.declared.statement.TypedStatement.{TypedStatement}
use Rattle.qt_typed.specs.declared.statement.TypedStatement.TheVariants as statement
use Rattle.qt_meaning.specs.Distribution.{leaves_of}
use Rattle.qt_meaning.specs.Laws.{total}
use Rattle.qt_meaning.specs.WellFormed.{Scope, FixedFits, QubitFits, QubitsFit, OperandFits, ActionFits, EachAction, BodyFits, sizes_from, IsWellFormed, main_scope}
use Rattle.qt_meaning_laws.proofs.Named.{all_none, all_more}
use Rattle.qt_meaning_laws.proofs.Standard.{standard_gates_fit}
use Rattle.qt_meaning_laws.proofs.LeafMasses.{mass_is_kept}

abbrev here : Place
here = record { file = 0; line = 1; column = 1 }

abbrev simple : TypedAction → TypedStatement
simple action = statement.Simple (record { place = here; tokens = 1 }) action

-- the standard gate with that number
abbrev use_of : List GateModifier → ℕ → GateUse
use_of modifiers number = record { gates = standard_bodies; modifiers = modifiers; gate = called.Gate number; arguments = [] }

abbrev both : List FixedQubit
both = fixed.OfParameter 0 0 ∷ fixed.OfParameter 0 1 ∷ []

-- def pair(qubit[2] p) -> bit[2] { h p; ctrl @ x p[0], p[1]; bit[2] c = measure p; return c; }
abbrev broadcast : TypedAction
broadcast = action.Broadcast (record { place = here; used = use_of [] 11; operands = qubits.Register both ∷ []; size = 2 })

abbrev controlled : TypedAction
controlled =
    action.Gate (record { place = here; used = use_of (modifier.Ctrl ∷ []) 9; operands = qubit.Fixed (fixed.OfParameter 0 0) ∷ qubit.Fixed (fixed.OfParameter 0 1) ∷ [] })

abbrev measured : TypedAction
measured = action.Declare (kind.Bit 2) 2 (Some (right.Measure (qubits.Register both)))

abbrev pair : TypedSubroutine
pair =
    record {
      parameters = parameter.Register 1 2 ∷ [];
      result = None;
      slots = 3;
      body = simple broadcast ∷ simple controlled ∷ simple measured ∷ [];
    }

-- qubit[3] q; pair(q[{2, 0}]); reset q[1];
abbrev chosen : List FixedQubit
chosen = fixed.Number 2 ∷ fixed.Number 0 ∷ []

abbrev calling : TypedAction
calling = action.Call (record { subroutine = 0; frame = record { first = 0; count = 3 }; values = []; qubits = qubits.Register chosen ∷ [] })

abbrev example : Typed
example =
    record {
      qubits = 3;
      slots = 3;
      size = 0;
      gates = standard_bodies;
      subroutines = pair ∷ [];
      body = simple calling ∷ simple (action.Reset (qubits.Single (qubit.Fixed (fixed.Number 1)))) ∷ [];
      outputs = [];
      start = [];
      end = here;
    }

-- ---- it is well formed

abbrev two : {A : Type 0} (Q : A → Type 0) (a b : A) → Q a → Q b → All Q (a ∷ b ∷ [])
two Q a b h g = all_more Q a (b ∷ []) h (all_more Q b [] g (all_none Q))

abbrev one : {A : Type 0} (Q : A → Type 0) (a : A) → Q a → All Q (a ∷ [])
one Q a h = all_more Q a [] h (all_none Q)

abbrev inner : Scope
inner = record (main_scope example) { own = sizes_from 0 pair.parameters }

abbrev outer : Scope
outer = record (main_scope example) { taken = λ i. if_number 0 i pair.parameters [] }

both_fit : All (FixedFits inner) both
both_fit = two (FixedFits inner) (fixed.OfParameter 0 0) (fixed.OfParameter 0 1) (omega arith) (omega arith)

broadcast_fits : ActionFits inner broadcast
unfolding standard_gates
broadcast_fits = ((refl, refl), one (OperandFits inner 2) (qubits.Register both) (refl, both_fit))

controlled_fits : ActionFits inner controlled
unfolding standard_gates
controlled_fits = ((refl, refl), two (QubitFits inner) (qubit.Fixed (fixed.OfParameter 0 0)) (qubit.Fixed (fixed.OfParameter 0 1)) (omega arith) (omega arith))

calling_fits : ActionFits outer calling
calling_fits = ((refl, tt), one (QubitsFit outer) (qubits.Register chosen) (two (FixedFits outer) (fixed.Number 2) (fixed.Number 0) (omega arith) (omega arith)))

pair_fits : BodyFits inner pair.body
pair_fits =
    let fits : TypedStatement → Type 0 = EachAction (ActionFits inner) in
    all_more fits (simple broadcast) (simple controlled ∷ simple measured ∷ []) broadcast_fits (two fits (simple controlled) (simple measured) controlled_fits both_fit)

main_fits : BodyFits outer example.body
main_fits = two (EachAction (ActionFits outer)) (simple calling) (simple (action.Reset (qubits.Single (qubit.Fixed (fixed.Number 1))))) calling_fits (omega arith)

example_fits : IsWellFormed example
example_fits = (standard_gates_fit, (pair_fits, main_fits))

-- so its leaves have the mass 1 together
example_mass : total (leaves_of example 20) ≡ one_real
example_mass = mass_is_kept example example_fits 20
