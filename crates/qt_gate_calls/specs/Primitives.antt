-- The primitives that a gate call comes to, in the order of their application (OpenQASM 3.0 live specification, "Gates": built-in gates,
-- quantum gate modifiers, hierarchically defined unitary gates; Cross et al. 2022). A primitive is U on one qubit or gphase on none, under
-- controls: qubits that are to be 1, and qubits that are to be 0.
use Rattle.std.specs.Prelude.{ℕ, zero, suc, ℤ, pos, negsuc, List, [], ◌∷◌, ◌++◌, map}
use Rattle.qt_gate_calls.specs.declared.body.GateModifier.{GateModifier}
use Rattle.qt_gate_calls.specs.declared.body.GateModifier.TheVariants.{Inv, Pow, Ctrl, NegCtrl}
use Rattle.qt_gate_calls.specs.declared.body.Called.{Called}
use Rattle.qt_gate_calls.specs.declared.body.Called.TheVariants as called
use Rattle.qt_gate_calls.specs.declared.body.BodyCall.{BodyCall}
use Rattle.qt_gate_calls.specs.declared.body.GateBody.{GateBody}
use Rattle.qt_gate_calls.specs.Units.{KnownUnits, opposite, nth_known}
use Rattle.qt_gate_calls.specs.Angles.{value}
use Rattle.qt_gate_calls.specs.Numbered.{numbered}

-- by what stands for a qubit and for an angle: the controls that are to be 1 and those that are to be 0, the qubit of U, the angles
pub data PrimitiveOf (Q A : Type 0) : Type 0 where
  Turned : List Q → List Q → Q → A → A → A → PrimitiveOf Q A
  Phased : List Q → List Q → A → PrimitiveOf Q A

pub record ControlsOf (Q : Type 0) : Type 0 where
  pub ones : List Q
  pub zeros : List Q

abbrev pub no_controls : {Q : Type 0} → ControlsOf Q
no_controls = record { ones = []; zeros = [] }

abbrev pub with_one : {Q : Type 0} → Q → ControlsOf Q → ControlsOf Q
with_one q cs = record { ones = cs.ones ++ (q ∷ []); zeros = cs.zeros }

abbrev pub with_zero : {Q : Type 0} → Q → ControlsOf Q → ControlsOf Q
with_zero q cs = record { ones = cs.ones; zeros = cs.zeros ++ (q ∷ []) }

-- ---- inverses and powers of a list

-- the inverses in reverse order
abbrev pub undo : {P : Type 0} → (P → P) → List P → List P
undo inverse [] = []
undo inverse (p ∷ ps) = undo inverse ps ++ (inverse p ∷ [])

abbrev pub repeated : {P : Type 0} → ℕ → List P → List P
repeated zero ps = []
repeated (suc k) ps = repeated k ps ++ ps

abbrev pub powered : {P : Type 0} → (P → P) → ℤ → List P → List P
powered inverse (pos k) ps = repeated k ps
powered inverse (negsuc k) ps = repeated (suc k) (undo inverse ps)

-- ---- the qubits of a call

abbrev pub nth_or : {Q : Type 0} → Q → ℕ → List Q → Q
nth_or any p [] = any
nth_or any zero (q ∷ qs) = q
nth_or any (suc p) (q ∷ qs) = nth_or any p qs

abbrev pub picked : {Q : Type 0} → Q → List Q → List ℕ → List Q
picked any qs [] = []
picked any qs (p ∷ ps) = nth_or any p qs ∷ picked any qs ps

abbrev pub first : {Q : Type 0} → Q → List Q → Q
first any qs = nth_or any 0 qs

abbrev pub others : {Q : Type 0} → List Q → List Q
others [] = []
others (q ∷ qs) = qs

-- ---- the primitives of a call, under controls and on its qubits

abbrev pub Primitive : Type 0
Primitive = PrimitiveOf ℕ KnownUnits

-- U(θ, φ, λ) becomes U(−θ, −λ, −φ), and gphase(γ) becomes gphase(−γ)
abbrev pub inverse_of : Primitive → Primitive
inverse_of (Turned ones zeros q theta phi lambda) = Turned ones zeros q (opposite theta) (opposite lambda) (opposite phi)
inverse_of (Phased ones zeros gamma) = Phased ones zeros (opposite gamma)

abbrev pub Primitives : Type 0
Primitives = ControlsOf ℕ → List ℕ → List Primitive

-- the first modifier is outermost, and its qubit comes first
abbrev pub modified_primitives : GateModifier → Primitives → Primitives
modified_primitives Inv ps cs qs = undo inverse_of (ps cs qs)
modified_primitives (Pow k) ps cs qs = powered inverse_of k (ps cs qs)
modified_primitives Ctrl ps cs qs = ps (with_one (first 0 qs) cs) (others qs)
modified_primitives NegCtrl ps cs qs = ps (with_zero (first 0 qs) cs) (others qs)

abbrev pub all_modified_primitives : List GateModifier → Primitives → Primitives
all_modified_primitives [] ps = ps
all_modified_primitives (m ∷ ms) ps = modified_primitives m (all_modified_primitives ms ps)

-- those of the gates by number, for what is known of their parameters
abbrev pub GatePrimitives : Type 0
GatePrimitives = ℕ → List KnownUnits → Primitives

abbrev pub called_primitives : GatePrimitives → Called → List KnownUnits → Primitives
called_primitives gates called.U angles cs qs = Turned cs.ones cs.zeros (first 0 qs) (nth_known 0 angles) (nth_known 1 angles) (nth_known 2 angles) ∷ []
called_primitives gates called.GlobalPhase angles cs qs = Phased cs.ones cs.zeros (nth_known 0 angles) ∷ []
called_primitives gates (called.Gate i) angles cs qs = gates i angles cs qs

abbrev pub call_primitives : GatePrimitives → List GateModifier → Called → List KnownUnits → Primitives
call_primitives gates ms gate angles = all_modified_primitives ms (called_primitives gates gate angles)

-- ---- bodies: the primitives of the calls in order

abbrev pub calls_primitives : GatePrimitives → List BodyCall → List KnownUnits → Primitives
calls_primitives gates [] given cs qs = []
calls_primitives gates (c ∷ calls) given cs qs =
    call_primitives gates c.modifiers c.gate (map (value given) c.angles) cs (picked 0 qs c.qubits) ++ calls_primitives gates calls given cs qs

abbrev pub body_primitives : GatePrimitives → GateBody → List KnownUnits → Primitives
body_primitives gates body = calls_primitives gates body.calls

abbrev pub primitives_of : List GateBody → GatePrimitives
primitives_of = numbered body_primitives (λ given cs qs. [])
