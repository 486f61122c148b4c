-- The number of primitives of a call rests on neither its angles nor its controls and qubits.
use Rattle.std.proofs.Common.{◌≡◌, ℕ, zero, suc, ◌+◌, ◌*◌, List, [], ◌∷◌, ◌++◌, length, map, refl, ap, ◌∙◌, arith, length-append}
use Rattle.std.specs.Prelude.{ℤ, pos, negsuc, unsigned_abs}
use Rattle.qt_gate_calls.specs.declared.body.GateModifier.{GateModifier}
use Rattle.qt_gate_calls.specs.declared.body.GateModifier.TheVariants.{Inv, Pow, Ctrl, NegCtrl}
use Rattle.qt_gate_calls.specs.declared.body.Called.{Called}
use Rattle.qt_gate_calls.specs.declared.body.Called.TheVariants as called
use Rattle.qt_gate_calls.specs.declared.body.BodyCall.{BodyCall}
use Rattle.qt_gate_calls.specs.declared.body.GateBody.{GateBody}
use Rattle.qt_gate_calls.specs.Units.{KnownUnits}
use Rattle.qt_gate_calls.specs.Angles.{value}
use Rattle.qt_gate_calls.specs.Numbered.{if_number, numbered_from}
use Rattle.qt_gate_calls.specs.Primitives.{ControlsOf, with_one, with_zero, undo, repeated, powered, picked, first, others, Primitive, inverse_of, Primitives, all_modified_primitives, GatePrimitives, called_primitives, call_primitives, calls_primitives, body_primitives, primitives_of}
use Rattle.qt_gate_calls.specs.Counts.{GateCounts, times_over, called_count, call_count, calls_count, primitive_counts}
use Rattle.qt_gate_calls.specs.Stopped.{stopped}

-- ---- inverses and powers

length-undo : (ps : List Primitive) → length (undo inverse_of ps) ≡ length ps
length-undo [] = refl
length-undo (p ∷ ps) =
    let h : length (undo inverse_of ps) ≡ length ps = length-undo ps in
    let k : length (undo inverse_of ps ++ (inverse_of p ∷ [])) ≡ length (undo inverse_of ps) + length (inverse_of p ∷ []) =
    length-append (undo inverse_of ps) (inverse_of p ∷ []) in
    omega arith

length-repeated : (e : ℕ) (ps : List Primitive) → length (repeated e ps) ≡ e * length ps
length-repeated zero ps = omega arith
length-repeated (suc e) ps =
    let h : length (repeated e ps) ≡ e * length ps = length-repeated e ps in
    let k : length (repeated e ps ++ ps) ≡ length (repeated e ps) + length ps = length-append (repeated e ps) ps in
    omega arith

length-powered : (k : ℤ) (ps : List Primitive) → length (powered inverse_of k ps) ≡ unsigned_abs k * length ps
length-powered (pos e) ps = length-repeated e ps
length-powered (negsuc e) ps = length-repeated (suc e) (undo inverse_of ps) ∙ ap (λ n. suc e * n) (length-undo ps)

modified_counted : (ms : List GateModifier) (ps : Primitives) (n : ℕ) → ((cs : ControlsOf ℕ) (qs : List ℕ) → length (ps cs qs) ≡ n)
    → (cs : ControlsOf ℕ) (qs : List ℕ) → length (all_modified_primitives ms ps cs qs) ≡ times_over ms n
modified_counted [] ps n h cs qs = h cs qs
modified_counted (Inv ∷ ms) ps n h cs qs = length-undo (all_modified_primitives ms ps cs qs) ∙ modified_counted ms ps n h cs qs
modified_counted (Pow k ∷ ms) ps n h cs qs =
    length-powered k (all_modified_primitives ms ps cs qs) ∙ ap (λ m. unsigned_abs k * m) (modified_counted ms ps n h cs qs)
modified_counted (Ctrl ∷ ms) ps n h cs qs = modified_counted ms ps n h (with_one (first 0 qs) cs) (others qs)
modified_counted (NegCtrl ∷ ms) ps n h cs qs = modified_counted ms ps n h (with_zero (first 0 qs) cs) (others qs)

-- ---- calls and gates

pub record AllCounted (gates : GatePrimitives) (counts : GateCounts) : Type 0 where
  pub by : (i : ℕ) (given : List KnownUnits) (cs : ControlsOf ℕ) (qs : List ℕ) → length (gates i given cs qs) ≡ counts i

called_counted : (gates : GatePrimitives) (counts : GateCounts) → AllCounted gates counts → (gate : Called) (given : List KnownUnits)
    (cs : ControlsOf ℕ) (qs : List ℕ) → length (called_primitives gates gate given cs qs) ≡ called_count counts gate
called_counted gates counts h called.U given cs qs = refl
called_counted gates counts h called.GlobalPhase given cs qs = refl
called_counted gates counts h (called.Gate i) given cs qs = h.by i given cs qs

call_counted : (gates : GatePrimitives) (counts : GateCounts) → AllCounted gates counts → (ms : List GateModifier) (gate : Called)
    (given : List KnownUnits) (cs : ControlsOf ℕ) (qs : List ℕ) → length (call_primitives gates ms gate given cs qs) ≡ call_count counts ms gate
call_counted gates counts h ms gate given cs qs =
    modified_counted ms (called_primitives gates gate given) (called_count counts gate) (called_counted gates counts h gate given) cs qs

calls_counted : (gates : GatePrimitives) (counts : GateCounts) → AllCounted gates counts → (calls : List BodyCall)
    (given : List KnownUnits) (cs : ControlsOf ℕ) (qs : List ℕ) → length (calls_primitives gates calls given cs qs) ≡ calls_count counts calls
calls_counted gates counts h [] given cs qs = refl
calls_counted gates counts h (c ∷ calls) given cs qs =
    let one : List Primitive = call_primitives gates c.modifiers c.gate (map (value given) c.angles) cs (picked 0 qs c.qubits) in
    let rest : List Primitive = calls_primitives gates calls given cs qs in
    length-append one rest
    ∙ ap (λ n. n + length rest) (call_counted gates counts h c.modifiers c.gate (map (value given) c.angles) cs (picked 0 qs c.qubits))
    ∙ ap (λ n. call_count counts c.modifiers c.gate + n) (calls_counted gates counts h calls given cs qs)

number_counted : (n i : ℕ) (a b : List KnownUnits → Primitives) (k l : ℕ) (given : List KnownUnits) (cs : ControlsOf ℕ) (qs : List ℕ)
    → length (a given cs qs) ≡ k → length (b given cs qs) ≡ l → length (if_number n i a b given cs qs) ≡ if_number n i k l
number_counted zero zero a b k l given cs qs g h = g
number_counted zero (suc i) a b k l given cs qs g h = h
number_counted (suc n) zero a b k l given cs qs g h = h
number_counted (suc n) (suc i) a b k l given cs qs g h = number_counted n i a b k l given cs qs g h

gates_counted_from : (bodies : List GateBody) (n : ℕ) (gates : GatePrimitives) (counts : GateCounts) → AllCounted gates counts
    → AllCounted (numbered_from body_primitives n bodies gates) (numbered_from (λ counts (body : GateBody). calls_count counts body.calls) n bodies counts)
gates_counted_from [] n gates counts h = h
gates_counted_from (body ∷ bodies) n gates counts h =
    gates_counted_from bodies (suc n) _ _
    (record {
      by = λ i given cs qs.
          number_counted n i (body_primitives gates body) (gates i) (calls_count counts body.calls) (counts i) given cs qs
          (calls_counted gates counts h body.calls given cs qs) (h.by i given cs qs);
    })

gates_counted : (bodies : List GateBody) → AllCounted (primitives_of bodies) (primitive_counts bodies)
gates_counted bodies = gates_counted_from bodies 0 _ _ (record { by = λ i given cs qs. refl })

pub primitives_counted : (bodies : List GateBody) (ms : List GateModifier) (gate : Called) (given : List KnownUnits) (cs : ControlsOf ℕ)
    (qs : List ℕ)
    → stopped (length (call_primitives (primitives_of bodies) ms gate given cs qs)) ≡ stopped (call_count (primitive_counts bodies) ms gate)
primitives_counted bodies ms gate given cs qs =
    ap stopped (call_counted (primitives_of bodies) (primitive_counts bodies) (gates_counted bodies) ms gate given cs qs)
