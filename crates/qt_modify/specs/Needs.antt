-- On which parameters of a gate an angle of its primitives depends (OpenQASM 3.0 live specification, "Gates", hierarchically defined
-- unitary gates and quantum gate modifiers; Cross et al. 2022). An angle depends on the parameters that stand in it.
use Rattle.std.specs.Prelude.{ℕ, zero, suc, pos, negsuc, Bool, true, false, not, ◌&&◌, ◌||◌, List, [], ◌∷◌, get_or}
use Rattle.std.specs.List.{list_any}
use Rattle.qt_gate_calls.specs.declared.angle.Angle.{Angle}
use Rattle.qt_gate_calls.specs.declared.angle.Angle.TheOpen as form
use Rattle.qt_gate_calls.specs.declared.angle.Angle.TheOpen.{Angle-F}
use Rattle.qt_gate_calls.specs.declared.angle.Angle.TheFolds.{fold-Angle}
use Rattle.qt_gate_calls.specs.declared.body.GateModifier.{GateModifier}
use Rattle.qt_gate_calls.specs.declared.body.GateModifier.TheVariants.{Inv, Pow, Ctrl, NegCtrl}
use Rattle.qt_gate_calls.specs.declared.body.Called.{Called}
use Rattle.qt_gate_calls.specs.declared.body.Called.TheVariants as called
use Rattle.qt_gate_calls.specs.declared.body.BodyCall.{BodyCall}
use Rattle.qt_gate_calls.specs.Numbered.{if_number}

abbrev pub is_number : ℕ → ℕ → Bool
is_number n i = if_number n i true false

-- the parameters that stand in one form of an angle, where those of its parts are these
abbrev pub occurs_in_form : Angle-F (ℕ → Bool) → ℕ → Bool
occurs_in_form (form.Units units) i = false
occurs_in_form (form.Parameter number) i = is_number number i
occurs_in_form (form.Sum a b) i = a i || b i
occurs_in_form (form.Difference a b) i = a i || b i
occurs_in_form (form.Opposite a) i = a i
occurs_in_form (form.Product a factor) i = a i
occurs_in_form (form.Quotient a divisor) i = a i

-- the parameter with that number stands in the angle
abbrev pub occurs : Angle → ℕ → Bool
occurs = fold-Angle (ℕ → Bool) occurs_in_form

-- a power 0, which has no primitives
abbrev pub is_idle : GateModifier → Bool
is_idle Inv = false
is_idle (Pow (pos zero)) = true
is_idle (Pow (pos (suc k))) = false
is_idle (Pow (negsuc k)) = false
is_idle Ctrl = false
is_idle NegCtrl = false

abbrev pub are_idle : List GateModifier → Bool
are_idle ms = list_any is_idle ms

-- which parameters are needed, by the numbers of the gate and of the parameter
abbrev pub Needs : Type 0
Needs = ℕ → ℕ → Bool

-- a list of flags, which are false behind its end
abbrev pub flag_at : List Bool → ℕ → Bool
flag_at flags i = get_or flags i false

abbrev pub called_needs : Needs → Called → ℕ → Bool
called_needs needs called.U i = flag_at (true ∷ true ∷ true ∷ []) i
called_needs needs called.GlobalPhase i = flag_at (true ∷ []) i
called_needs needs (called.Gate number) i = needs number i

-- the argument with that number of a call is wanted
abbrev pub wanted : Needs → List GateModifier → Called → ℕ → Bool
wanted needs ms gate i = not (are_idle ms) && called_needs needs gate i

-- a parameter stands in one of the arguments that are wanted, the first of which has the number n
abbrev pub angles_need : (ℕ → Bool) → ℕ → List Angle → ℕ → Bool
angles_need want n [] i = false
angles_need want n (a ∷ rest) i = (want n && occurs a i) || angles_need want (suc n) rest i

abbrev pub calls_need : Needs → List BodyCall → ℕ → Bool
calls_need needs [] i = false
calls_need needs (c ∷ calls) i = angles_need (wanted needs c.modifiers c.gate) 0 c.angles i || calls_need needs calls i
