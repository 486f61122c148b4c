-- Lists by the places of their elements, and from their ends.
use Rattle.std.proofs.Common.{◌≡◌, ℕ, zero, suc, ◌+◌, ◌-◌, ◌<◌, ◌≤◌, List, [], ◌∷◌, ◌++◌, length, take, get_or, refl, sym, ap, ◌∙◌, arith, append_assoc}
use Rattle.std.proofs.lemmas.Int.{ints}
use Rattle.std.proofs.lemmas.List.{take_more}
use Rattle.std.proofs.lemmas.Option.{unwrap_or-slice_get}
use Rattle.std.specs.Prelude.{slice_get, unwrap_or, ℤ, pos, negsuc, unsigned_abs, ◌≤ℤ◌, ◌<ℤ◌}
use Rattle.qt_gate_calls.specs.declared.body.GateModifier.{GateModifier}
use Rattle.qt_gate_calls.specs.Primitives.{undo, repeated, powered, nth_or, picked}
use Rattle.qt_instructions.specs.declared.reference.QubitRef.{QubitRef}
use Rattle.qt_instructions.specs.declared.reference.QubitRef.TheVariants as reference
use Rattle.qt_primitives.specs.declared.unit.Argument.{Argument}
use Rattle.qt_primitives.specs.declared.unit.Argument.TheVariants.{Fixed}
use Rattle.qt_primitives.specs.declared.unit.UnitPrimitive.{UnitPrimitive}
use Rattle.qt_primitives.specs.Primitives.{inverse_of, modified_by, modified, no_qubit}

pub argument_found : (given : List Argument) (i : ℕ) → unwrap_or (slice_get given i) (Fixed (pos 0)) ≡ get_or given i (Fixed (pos 0))
argument_found given i = unwrap_or-slice_get given i (Fixed (pos 0))

pub one_behind : {A : Type 0} (xs : List A) (x : A) (ys : List A) → (xs ++ (x ∷ [])) ++ ys ≡ xs ++ (x ∷ ys)
one_behind xs x ys = append_assoc xs (x ∷ []) ys

-- ---- qubits

pub qubit_found : (qs : List QubitRef) (place : ℕ) → get_or qs place (reference.At 0) ≡ nth_or no_qubit place qs
qubit_found [] place = refl
qubit_found (q ∷ qs) zero = refl
qubit_found (q ∷ qs) (suc place) = qubit_found qs place

picked_last : (qs : List QubitRef) (ps : List ℕ) (p : ℕ) → picked no_qubit qs
    (ps ++ p ∷ []) ≡ picked no_qubit qs ps ++ nth_or no_qubit p qs ∷ []
picked_last qs [] p = refl
picked_last qs (x ∷ ps) p = ap (λ t. nth_or no_qubit x qs ∷ t) (picked_last qs ps p)

pub one_more_picked : (qs : List QubitRef) (places : List ℕ) (n d : ℕ) (named new : List QubitRef) (q : QubitRef) → n < length places
    → named ≡ picked no_qubit qs (take n places) → q ≡ nth_or no_qubit (get_or places n d) qs → new ≡ named ++ q ∷ []
    → new ≡ picked no_qubit qs (take (n + 1) places)
one_more_picked qs places n d named new q h k e w =
    w
    ∙ ap (λ t. t ++ q ∷ []) k
    ∙ ap (λ t. picked no_qubit qs (take n places) ++ t ∷ []) e
    ∙ sym (picked_last qs (take n places) (get_or places n d))
    ∙ ap (picked no_qubit qs) (sym (take_more places n d h))

-- ---- primitives

pub undo_last : (ps : List UnitPrimitive) (p : UnitPrimitive) → undo inverse_of (ps ++ (p ∷ [])) ≡ inverse_of p ∷ undo inverse_of ps
undo_last [] p = refl
undo_last (q ∷ ps) p = ap (λ t. t ++ (inverse_of q ∷ [])) (undo_last ps p)

pub undo_step : (u left rest new target : List UnitPrimitive) (p q : UnitPrimitive) → left ≡ rest ++ (p ∷ []) → q ≡ inverse_of p
    → new ≡ u ++ (q ∷ []) → u ++ undo inverse_of left ≡ target → new ++ undo inverse_of rest ≡ target
undo_step u left rest new target p q l b n t =
    ap (λ x. x ++ undo inverse_of rest) n
    ∙ one_behind u q (undo inverse_of rest)
    ∙ ap (λ x. u ++ (x ∷ undo inverse_of rest)) b
    ∙ ap (λ x. u ++ x) (sym (undo_last rest p))
    ∙ ap (λ x. u ++ undo inverse_of x) (sym l)
    ∙ t

pub one_more_copied : (onto ps : List UnitPrimitive) (n : ℕ) (p : UnitPrimitive) → n < length ps → p ≡ get_or ps n p
    → (onto ++ take n ps) ++ p ∷ [] ≡ onto ++ take (n + 1) ps
one_more_copied onto ps n p h e =
    append_assoc onto (take n ps) (p ∷ [])
    ∙ ap (λ t. onto ++ t) (sym (take_more ps n p h ∙ ap (λ x. take n ps ++ x ∷ []) (sym e)))

repeat_nothing : (k : ℕ) → repeated {P = UnitPrimitive} k [] ≡ []
repeat_nothing zero = refl
repeat_nothing (suc k) = ap (λ t. t ++ []) (repeat_nothing k)

pub repeated_nothing : (k : ℕ) (out ps : List UnitPrimitive) → length ps < 1 → out ≡ [] → out ≡ repeated k ps
repeated_nothing k out [] e o = o ∙ sym (repeat_nothing k)
repeated_nothing k out (p ∷ ps) e o = absurd (omega arith)

pub powered_up : (k : ℤ) (ps : List UnitPrimitive) → pos 0 ≤ℤ k → repeated (unsigned_abs k) ps ≡ powered inverse_of k ps
powered_up (pos k) ps h = refl
powered_up (negsuc k) ps h = absurd (omega (arith, ints, h))

pub powered_down : (k : ℤ) (ps : List UnitPrimitive) → k <ℤ pos 0 → repeated (unsigned_abs k) (undo inverse_of ps) ≡ powered inverse_of k ps
powered_down (pos k) ps h = absurd (omega (arith, ints, h))
powered_down (negsuc k) ps h = refl

pub modified_last : (ms : List GateModifier) (m : GateModifier) (ps : List UnitPrimitive)
    → modified (ms ++ m ∷ []) ps ≡ modified ms (modified_by m ps)
modified_last [] m ps = refl
modified_last (x ∷ ms) m ps = ap (modified_by x) (modified_last ms m ps)

pub one_fewer : (ms : List GateModifier) (left : ℕ) (d : GateModifier) (ps more target : List UnitPrimitive) → 0 < left → left ≤ length ms
    → modified (take left ms) ps ≡ target → more ≡ modified_by (get_or ms (left - 1) d) ps → modified (take (left - 1) ms) more ≡ target
one_fewer ms left d ps more target z l t w =
    let m : GateModifier = get_or ms (left - 1) d in
    let inside : left - 1 < length ms = omega arith in
    let back : (left - 1) + 1 ≡ left = omega arith in
    ap (modified (take (left - 1) ms)) w
    ∙ sym (modified_last (take (left - 1) ms) m ps)
    ∙ ap (λ (x : List GateModifier). modified x ps) (sym (ap (λ k. take k ms) (sym back) ∙ take_more ms (left - 1) d inside))
    ∙ t
