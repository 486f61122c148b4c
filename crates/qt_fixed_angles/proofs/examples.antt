-- Worked programs: the place and the units of their first wrong angle. Each text begins with the include of the standard gates in line 1 and
-- has one statement a line.
use Rattle.std.proofs.Common.{◌≡◌, refl, [], ◌∷◌, List, ℕ, pos, negsuc, zero, ◌^◌, None, Some}
use Rattle.std.specs.Prelude.{ℤ}
use denote.Hole.Carrier.{hidden}
use Rattle.qt_tree.specs.declared.place.Place.{Place}
use Rattle.qt_gate_calls.specs.Standard.{standard_bodies, standard_gates}
use Rattle.qt_gate_calls.specs.declared.angle.Angle.TheBlock.{hidden-the_row-Angle-0}
use Rattle.qt_gate_calls.specs.declared.body.Called.TheVariants as called
use Rattle.qt_gate_calls.specs.declared.body.GateModifier.{GateModifier}
use Rattle.qt_gate_calls.specs.declared.body.GateModifier.TheVariants as modifier
use Rattle.qt_registers.specs.declared.fixed.FixedQubit.TheVariants as fixed
use Rattle.qt_typed.specs.declared.call.GateUse.{GateUse}
use Rattle.qt_typed.specs.declared.call.TypedQubits.TheVariants as qubits
use Rattle.qt_typed.specs.declared.expression.TypedPhase.{TypedPhase}
use Rattle.qt_typed.specs.declared.expression.TypedPhase.TheVariants as phase
use Rattle.qt_typed.specs.declared.program.Typed.{Typed}
use Rattle.qt_typed.specs.declared.program.TypedSubroutine.{TypedSubroutine}
use Rattle.qt_typed.specs.declared.statement.TypedAction.{TypedAction}
use Rattle.qt_typed.specs.declared.statement.TypedAction.TheVariants as action
use Rattle.qt_typed.specs.declared.statement.TypedStatement.{TypedStatement}
use Rattle.qt_typed.specs.declared.statement.TypedStatement.TheVariants as statement
use Rattle.qt_fixed_angles.specs.Angles.{first_wrong_angle, wrong_units}

-- ---- words for typed programs

abbrev line : ℕ → Place
line n = record { file = 0; line = n; column = 1 }

abbrev at_line : ℕ → TypedAction → TypedStatement
at_line n act = statement.Simple (record { place = line n; tokens = 1 }) act

-- the standard gate with that number
abbrev used : List GateModifier → ℕ → List TypedPhase → GateUse
used modifiers number arguments =
    record { gates = standard_bodies; modifiers = modifiers; gate = called.Gate number; arguments = arguments }

-- rz on one qubit, whose own number stands in no angle
abbrev rz : ℕ → List GateModifier → ℤ → TypedStatement
rz n modifiers units = at_line n (action.Gate (record { place = line n; used = used modifiers 15 (phase.Fixed units ∷ []); operands = [] }))

abbrev call : ℕ → ℕ → TypedStatement
call n subroutine =
    at_line n (action.Call (record { subroutine = subroutine; frame = record { first = 0; count = 0 }; values = []; qubits = [] }))

abbrev subroutine : List TypedStatement → TypedSubroutine
subroutine body = record { parameters = []; result = None; body = body; slots = 0 }

abbrev program : List TypedSubroutine → List TypedStatement → Typed
program subroutines body = record {
  qubits = 2;
  slots = 0;
  size = 0;
  gates = standard_bodies;
  subroutines = subroutines;
  body = body;
  outputs = [];
  start = [];
  end = line 99;
}

-- ---- programs

-- qubit q; rz(pi/2) q; rz(pi/4) q; rz(pi/8) q; the phase gphase(-pi/8) of the second comes before that of the third
first_of_two : first_wrong_angle (program [] (rz 3 [] (pos (2 ^ 31)) ∷ rz 4 [] (pos (2 ^ 30)) ∷ rz 5 [] (pos (2 ^ 29)) ∷ []))
    ≡ Some (record { place = line 4; units = negsuc 536870911 })
unfolding wrong_units standard_gates hidden hidden-the_row-Angle-0
first_of_two = refl

-- qubit q; inv @ rz(pi/8) q; the list of primitives is reversed, so the angle of U comes first
undone : first_wrong_angle (program [] (rz 3 (modifier.Inv ∷ []) (pos (2 ^ 29)) ∷ []))
    ≡ Some (record { place = line 3; units = negsuc 536870911 })
unfolding wrong_units standard_gates hidden hidden-the_row-Angle-0
undone = refl

-- qubit q; pow(0) @ rz(pi/4) q; there is no primitive
none_of_power : first_wrong_angle (program [] (rz 3 (modifier.Pow (pos zero) ∷ []) (pos (2 ^ 30)) ∷ [])) ≡ None
unfolding wrong_units standard_gates hidden hidden-the_row-Angle-0
none_of_power = refl

-- def f() { rz(pi/4) q; } def g() { rz(pi/8) q; } def k() { g(); } k(); rz(pi/16) q; k and with it g is put in, and f nowhere
put_in : first_wrong_angle (program
    (subroutine (rz 3 [] (pos (2 ^ 30)) ∷ []) ∷ subroutine (rz 4 [] (pos (2 ^ 29)) ∷ []) ∷ subroutine (call 5 1 ∷ []) ∷ [])
    (call 6 2 ∷ rz 7 [] (pos (2 ^ 28)) ∷ []))
    ≡ Some (record { place = line 4; units = negsuc 268435455 })
unfolding wrong_units standard_gates hidden hidden-the_row-Angle-0
put_in = refl

-- def f() { rz(pi/4) q; } rz(pi/2) q; f isn't called
put_in_nowhere : first_wrong_angle (program (subroutine (rz 3 [] (pos (2 ^ 30)) ∷ []) ∷ []) (rz 4 [] (pos (2 ^ 31)) ∷ [])) ≡ None
unfolding wrong_units standard_gates hidden hidden-the_row-Angle-0
put_in_nowhere = refl

-- qubit[2] q; rz(pi/4) q; both places have the wrong angle
broadcast : first_wrong_angle (program [] (at_line 3 (action.Broadcast (record {
  place = line 3;
  used = used [] 15 (phase.Fixed (pos (2 ^ 30)) ∷ []);
  operands = qubits.Register (fixed.Number 0 ∷ fixed.Number 1 ∷ []) ∷ [];
  size = 2;
})) ∷ []))
    ≡ Some (record { place = line 3; units = negsuc 536870911 })
unfolding wrong_units standard_gates hidden hidden-the_row-Angle-0
broadcast = refl
