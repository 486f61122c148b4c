-- The code of the primitives of a call lands: it applies one after another, as they are read in the cells.
use Rattle.std.proofs.Common.{◌≡◌, ℕ, zero, suc, ◌+◌, ◌*◌, ◌%◌, ◌^◌, ◌<◌, Bool, true, false, ◌||◌, nat_eq, if◌then◌else◌, ℤ, pos, negsuc, Ok, Err, Option, Some, None, List, [], ◌∷◌, ◌++◌, length, map, refl, sym, ap, subst, ◌∙◌, arith}
use Rattle.std.specs.Prelude.{unsigned_abs, unwrap_or}
use Rattle.std.specs.Int.{int_rem_euclid}
use Rattle.std.specs.Int.RustNames.{int_div}
use Rattle.std.proofs.Math.Nat.{mod-lt}
use Rattle.std.proofs.lemmas.Bool.{eqb-true, lt-ltb}
use Rattle.qt_tree.specs.declared.place.Place.{Place}
use Rattle.qt_phase.specs.Phase.{divides, eighth_of}
use Rattle.qt_ring.specs.Places.{AreQubits, Free}
use Rattle.qt_gate_calls.specs.Faults.{EighthPrimitive, turned_by, phased_by, unless_eighth, or_later}
use Rattle.qt_gate_calls.specs.Faults as faults
use Rattle.qt_gate_calls.specs.Primitives.{Primitive}
use Rattle.qt_gate_calls.specs.Units.{eighth_known}
use Rattle.qt_meaning.specs.Applying.{different, is_among, some_twice}
use Rattle.qt_meaning.specs.Points.{Point, then_do, with_result}
use Rattle.qt_meaning.specs.Values.{BadAngle, Index, SameQubit, and_then, or_fault}
use Rattle.qt_instructions.specs.declared.reference.QubitRef.{QubitRef}
use Rattle.qt_instructions.specs.declared.reference.QubitRef.TheVariants as reference
use Rattle.qt_instructions.specs.declared.instruction.Instr.TheVariants as instr
use Rattle.qt_instructions.specs.declared.parts.Parts.{Parts}
use Rattle.qt_code.specs.Cells.{Cells, angle_by, different_by, named_by, primitive_by, qubit_of, qubits_of, referred_by}
use Rattle.qt_code.specs.Different.{references_of}
use Rattle.qt_code.specs.Tail.{did, tail}
use Rattle.qt_code.proofs.Steps.{tail_at, tail_with}
use Rattle.qt_primitives.specs.declared.unit.UnitAngle.{UnitAngle}
use Rattle.qt_primitives.specs.declared.unit.UnitAngle.TheVariants as angle
use Rattle.qt_primitives.specs.declared.unit.Action.{Action}
use Rattle.qt_primitives.specs.declared.unit.Action.TheVariants.{Turn, Phase}
use Rattle.qt_primitives.specs.declared.unit.Controls.{Controls}
use Rattle.qt_primitives.specs.declared.unit.UnitPrimitive.{UnitPrimitive}
use Rattle.qt_modify.specs.Eighths.{angle_ref, first_wrong, under_controls, with_eighths, wrong_action, wrong_angle}
use Rattle.qt_modify_laws.specs.Laws.{action_at, angle_at, primitive_at}
use Rattle.qt_modify_laws.specs.Running.{known_in}
use Rattle.qt_gate_laws.specs.Primitives.{HaveQubits}
use Rattle.qt_gate_laws.specs.Primitives as laws
use Rattle.qt_gate_call_laws.specs.Applying.{primitives_run}
use Rattle.qt_gate_call_laws.proofs.Leaves.{on_then}
use Rattle.qt_flat_code.specs.GateCalls.{primitives_code}
use Rattle.qt_flat_expressions.specs.Lands.{StandsAt}
use Rattle.qt_flat_gate_calls.proofs.Arguments.{units_of}

-- ---- eighths

below_eight : (z : ℤ) → unsigned_abs (int_rem_euclid z (pos 8)) < 8
below_eight (pos x) = let h : x % 8 < 8 = mod-lt x (omega arith) in h
below_eight (negsuc i) = let h : i % 8 < 8 = mod-lt i (omega arith) in omega arith

eighth_below_by : (t : Bool) (x e : ℕ) → x < 8 → (if t then Some x else None) ≡ Some e → e < 8
eighth_below_by true x e l h = let s : x ≡ e = cc in subst (λ n. n < 8) s l
eighth_below_by false x e l h = absurd (cc)

eighth_below : (u : ℤ) (e : ℕ) → eighth_of u ≡ Some e → e < 8
eighth_below u e h =
    let z : ℤ = int_div u (pos (2 ^ 30)) in
    eighth_below_by (divides (pos (2 ^ 30)) u) (unsigned_abs (int_rem_euclid z (pos 8))) e (below_eight z) h

-- so many times π/4 is the multiple with that number
pub eighth_back : (e : ℕ) → e < 8 → eighth_of (pos (e * 2 ^ 30)) ≡ Some e
eighth_back zero l = refl
eighth_back (suc zero) l = refl
eighth_back (suc (suc zero)) l = refl
eighth_back (suc (suc (suc zero))) l = refl
eighth_back (suc (suc (suc (suc zero)))) l = refl
eighth_back (suc (suc (suc (suc (suc zero))))) l = refl
eighth_back (suc (suc (suc (suc (suc (suc zero)))))) l = refl
eighth_back (suc (suc (suc (suc (suc (suc (suc zero))))))) l = refl
eighth_back (suc (suc (suc (suc (suc (suc (suc (suc e)))))))) l = absurd (omega arith)

-- ---- angles

fixed_reads : (u : ℤ) (o : Option ℕ) → eighth_of u ≡ o → unless_eighth u o ≡ None → eighth_of (pos (unwrap_or o 0 * 2 ^ 30)) ≡ eighth_of u
fixed_reads u (Some e) h w = eighth_back e (eighth_below u e h) ∙ sym h
fixed_reads u None h w = absurd (cc)

angle_reads : (a : UnitAngle) (cells : Cells) → wrong_angle a ≡ None
    → eighth_known (angle_by (angle_ref a) cells) ≡ eighth_known (angle_at (known_in (units_of cells)) a)
angle_reads (angle.Fixed u) cells w = fixed_reads u (eighth_of u) refl w
angle_reads (angle.Cell cell false) cells w = refl
angle_reads (angle.Cell cell true) cells w = refl

later_none : (a b : Option ℤ) → or_later a b ≡ None → (a ≡ None) × (b ≡ None)
later_none None b e = (refl, e)
later_none (Some u) b e = absurd (cc)

-- ---- a primitive in the cells

abbrev pub named_in : Cells → QubitRef → ℕ
named_in cells r = named_by r cells

abbrev pub read_in : Cells → UnitPrimitive → Primitive
read_in cells u = primitive_at (named_in cells) (known_in (units_of cells)) u

map-append : (f : QubitRef → ℕ) (a b : List QubitRef) → map f (a ++ b) ≡ map f a ++ map f b
map-append f [] b = refl
map-append f (x ∷ a) b = ap (λ t. f x ∷ t) (map-append f a b)

action_reads : (cs : Controls) (a : Action) (cells : Cells) → wrong_action a ≡ None
    → faults.with_eighths (referred_by (under_controls cs a) cells)
    ≡ faults.with_eighths (action_at (named_in cells) (known_in (units_of cells)) (map (named_in cells) cs.ones) (map (named_in cells) cs.zeros) a)
action_reads cs (Turn q a b c) cells w =
    let units = known_in (units_of cells) in
    let ones = map (named_in cells) cs.ones in
    let zeros = map (named_in cells) cs.zeros in
    let h = later_none (wrong_angle a) (or_later (wrong_angle b) (wrong_angle c)) w in
    let g = later_none (wrong_angle b) (wrong_angle c) h.1 in
    ap (λ t. turned_by ones zeros (named_in cells q) t (eighth_known (angle_by (angle_ref b) cells)) (eighth_known (angle_by (angle_ref c) cells)))
    (angle_reads a cells h.0)
    ∙ ap (λ t. turned_by ones zeros (named_in cells q) (eighth_known (angle_at units a)) t (eighth_known (angle_by (angle_ref c) cells))) (angle_reads b cells g.0)
    ∙ ap (λ t. turned_by ones zeros (named_in cells q) (eighth_known (angle_at units a)) (eighth_known (angle_at units b)) t) (angle_reads c cells g.1)
action_reads cs (Phase a) cells w =
    ap (phased_by (map (named_in cells) cs.ones) (map (named_in cells) cs.zeros)) (angle_reads a cells w)

action_names : (cs : Controls) (a : Action) (cells : Cells) → map (named_in cells) (references_of (under_controls cs a))
    ≡ laws.qubits_of (action_at (named_in cells) (known_in (units_of cells)) (map (named_in cells) cs.ones) (map (named_in cells) cs.zeros) a)
action_names cs (Turn q a b c) cells =
    map-append (named_in cells) cs.ones (cs.zeros ++ (q ∷ [])) ∙ ap (λ t. map (named_in cells) cs.ones ++ t) (map-append (named_in cells) cs.zeros (q ∷ []))
action_names cs (Phase a) cells = map-append (named_in cells) cs.ones cs.zeros

-- ---- its qubits pass the test

one_passes : (n : ℕ) (r : QubitRef) (cells : Cells) → named_by r cells < n → qubit_of n r cells ≡ Ok (named_by r cells)
one_passes n (reference.At q) cells l = refl
one_passes n (reference.Work cell) cells l = ap (λ b. if b then Ok (cells cell) else Err Index) (lt-ltb (cells cell) n l)

all_pass : (n : ℕ) (rs : List QubitRef) (cells : Cells) → AreQubits n (map (named_in cells) rs) → qubits_of n rs cells ≡ Ok (map (named_in cells) rs)
all_pass n [] cells h = refl
all_pass n (r ∷ rs) cells h =
    ap (λ v. and_then v (λ q. and_then (qubits_of n rs cells) (λ qs. Ok (q ∷ qs)))) (one_passes n r cells h.0)
    ∙ ap (λ v. and_then v (λ qs. Ok (named_by r cells ∷ qs))) (all_pass n rs cells h.2)

same_numbers : (q r : ℕ) → nat_eq q r ≡ true → q ≡ r
same_numbers q r e = eqb-true q r e

none_among : (q : ℕ) (qs : List ℕ) → Free q qs → is_among q qs ≡ false
none_among q [] h = refl
none_among q (r ∷ rs) h = by (nat_eq q r) refl (none_among q rs h.1)
  where
    by : (b : Bool) → nat_eq q r ≡ b → is_among q rs ≡ false → (b || is_among q rs) ≡ false
    by true e rest = absurd (h.0 (same_numbers q r e))
    by false e rest = rest

or_false : (a b : Bool) → a ≡ false → b ≡ false → (a || b) ≡ false
or_false true b e f = e
or_false false b e f = f

none_twice : (n : ℕ) (qs : List ℕ) → AreQubits n qs → some_twice qs ≡ false
none_twice n [] h = refl
none_twice n (q ∷ qs) h = or_false (is_among q qs) (some_twice qs) (none_among q qs h.1) (none_twice n qs h.2)

qubits_pass : (n : ℕ) (rs : List QubitRef) (cells : Cells) → AreQubits n (map (named_in cells) rs) → different_by n rs cells ≡ Ok (map (named_in cells) rs)
qubits_pass n rs cells h =
    ap (λ v. and_then v different) (all_pass n rs cells h)
    ∙ ap (λ b. if b then Err SameQubit else Ok (map (named_in cells) rs)) (none_twice n (map (named_in cells) rs) h)

-- ---- all of them

primitive_reads : (n : ℕ) (u : UnitPrimitive) (cells : Cells) → wrong_action u.action ≡ None → AreQubits n (laws.qubits_of (read_in cells u))
    → primitive_by n (with_eighths u) cells ≡ or_fault BadAngle (faults.with_eighths (read_in cells u))
primitive_reads n u cells w h =
    ap (λ v. and_then v (λ qs. or_fault BadAngle (faults.with_eighths (referred_by (with_eighths u) cells))))
    (qubits_pass n (references_of (with_eighths u)) cells (subst (AreQubits n) (sym (action_names u.controls u.action cells)) h))
    ∙ ap (or_fault BadAngle) (action_reads u.controls u.action cells w)

module _ (code : Parts) (place : Place) where
  pub primitives_land : (us : List UnitPrimitive) (at to : ℕ) (cells : Cells) (p : Point) → first_wrong us ≡ None
      → HaveQubits code.qubits (map (read_in cells) us) → StandsAt code place at (primitives_code us) → at + length us ≡ to
      → tail code at cells p ≡ then_do (primitives_run (map (read_in cells) us) place) (tail code to cells) p
  primitives_land [] at to cells p w q h t =
      let e : at ≡ to = omega (arith, t) in
      ap (λ n. tail code n cells p) e ∙ sym (on_then (tail code to cells) p)
  primitives_land (u ∷ us) at to cells p w q h t =
      let v = later_none (wrong_action u.action) (first_wrong us) w in
      tail_at code at (instr.Gate (with_eighths u), place) h.0 cells p
      ∙ ap (λ r. with_result r place (λ e q. tail_with code p.fuel (suc at) cells (did e place q)) p)
      (primitive_reads code.qubits u cells v.0 q.0)
      ∙ by (faults.with_eighths (read_in cells u))
      (λ e. primitives_land us (suc at) to cells (did e place p) v.1 q.1 h.1 (omega (arith, t)))
    where
      by : (o : Option EighthPrimitive)
          → ((e : EighthPrimitive) → tail code (suc at) cells (did e place p)
          ≡ then_do (primitives_run (map (read_in cells) us) place) (tail code to cells) (did e place p))
          → with_result (or_fault BadAngle o) place (λ e q. tail_with code p.fuel (suc at) cells (did e place q)) p
          ≡ then_do (with_result (or_fault BadAngle o) place (λ e q. primitives_run (map (read_in cells) us) place (did e place q))) (tail code to cells) p
      by (Some e) later = later e
      by None later = refl
