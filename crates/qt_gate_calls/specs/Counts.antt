-- How many primitives a gate call comes to, and how many operators stand in the arguments of the calls that it puts in: what the size of a
-- program counts (the size is this profile's; OpenQASM 3.0 live specification, "Gates"; Cross et al. 2022).
use Rattle.std.specs.Prelude.{ℕ, ◌+◌, ◌*◌, unsigned_abs, List, [], ◌∷◌}
use Rattle.qt_gate_calls.specs.declared.body.GateModifier.{GateModifier}
use Rattle.qt_gate_calls.specs.declared.body.GateModifier.TheVariants.{Inv, Pow, Ctrl, NegCtrl}
use Rattle.qt_gate_calls.specs.declared.body.Called.{Called}
use Rattle.qt_gate_calls.specs.declared.body.Called.TheVariants as called
use Rattle.qt_gate_calls.specs.declared.body.BodyCall.{BodyCall}
use Rattle.qt_gate_calls.specs.declared.body.GateBody.{GateBody}
use Rattle.qt_gate_calls.specs.Numbered.{numbered}

-- a number for each gate
abbrev pub GateCounts : Type 0
GateCounts = ℕ → ℕ

-- so many times as the powers say
abbrev pub times_over : List GateModifier → ℕ → ℕ
times_over [] n = n
times_over (Inv ∷ ms) n = times_over ms n
times_over (Pow k ∷ ms) n = unsigned_abs k * times_over ms n
times_over (Ctrl ∷ ms) n = times_over ms n
times_over (NegCtrl ∷ ms) n = times_over ms n

-- ---- primitives

abbrev pub called_count : GateCounts → Called → ℕ
called_count counts called.U = 1
called_count counts called.GlobalPhase = 1
called_count counts (called.Gate i) = counts i

abbrev pub call_count : GateCounts → List GateModifier → Called → ℕ
call_count counts ms gate = times_over ms (called_count counts gate)

abbrev pub calls_count : GateCounts → List BodyCall → ℕ
calls_count counts [] = 0
calls_count counts (c ∷ calls) = call_count counts c.modifiers c.gate + calls_count counts calls

abbrev pub primitive_counts : List GateBody → GateCounts
primitive_counts = numbered (λ counts body. calls_count counts body.calls) 0

-- ---- operators: in a body those of each call's own arguments, and those in the body that it puts in

abbrev pub called_operators : GateCounts → Called → ℕ
called_operators counts called.U = 0
called_operators counts called.GlobalPhase = 0
called_operators counts (called.Gate i) = counts i

abbrev pub call_operators : GateCounts → List GateModifier → Called → ℕ
call_operators counts ms gate = times_over ms (called_operators counts gate)

abbrev pub calls_operators : GateCounts → List BodyCall → ℕ
calls_operators counts [] = 0
calls_operators counts (c ∷ calls) = (c.operators + call_operators counts c.modifiers c.gate) + calls_operators counts calls

abbrev pub operator_counts : List GateBody → GateCounts
operator_counts = numbered (λ counts body. calls_operators counts body.calls) 0
