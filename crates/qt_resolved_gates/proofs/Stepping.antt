-- A primitive step by step is the primitive of the meaning: first all qubits, then that they differ, then the angles.
use Rattle.std.proofs.Common.{◌≡◌, ℕ, nat_lt, Bool, true, false, cond, List, [], ◌∷◌, ◌++◌, map, Option, Some, None, Ok, Err, refl, sym, ap, ◌∙◌}
use Rattle.qt_gate_calls.specs.Faults.{EighthPrimitive, turned_by, phased_by}
use Rattle.qt_gate_calls.specs.Units.{eighth_known}
use Rattle.qt_meaning.specs.Applying.{different, some_twice}
use Rattle.qt_meaning.specs.Values.{Evaluated, BadAngle, Index, SameQubit, and_then, or_fault}
use Rattle.qt_instructions.specs.declared.reference.QubitRef.{QubitRef}
use Rattle.qt_instructions.specs.declared.reference.QubitRef.TheVariants as qubit
use Rattle.qt_instructions.specs.declared.reference.AngleRef.{AngleRef}
use Rattle.qt_instructions.specs.declared.primitive.Primitive.TheVariants as primitive
use Rattle.qt_code.specs.Cells.{Cells, angle_by, named_by, qubit_of, qubits_of, primitive_by}
use Rattle.qt_machine.specs.declared.qubits.Named.{Named}
use Rattle.qt_machine.specs.Named.{with_qubit, with_qubits}
use Rattle.qt_machine.proofs.Sets.{twice_named}
use Rattle.qt_kernel.specs.declared.primitive.FixedPrim.{FixedPrim}
use Rattle.qt_resolved_gates.specs.declared.resolve.Masks.{Masks}
use Rattle.qt_resolved_gates.specs.Resolved.{mask_of, no_qubits, prim_of, unless_twice, turn_if, phase_if, turn_by, phase_by}

-- ---- lists of references

same_list : (r : Evaluated (List ℕ)) → r ≡ and_then r (λ x. Ok x)
same_list (Ok x) = refl
same_list (Err f) = refl

in_front : (a : Evaluated ℕ) (b c : Evaluated (List ℕ))
    → and_then a (λ q. and_then (and_then b (λ os. and_then c (λ zs. Ok (os ++ zs)))) (λ qs. Ok (q ∷ qs)))
    ≡ and_then (and_then a (λ q. and_then b (λ qs. Ok (q ∷ qs)))) (λ os. and_then c (λ zs. Ok (os ++ zs)))
in_front (Ok q) (Ok os) (Ok zs) = refl
in_front (Ok q) (Ok os) (Err f) = refl
in_front (Ok q) (Err f) c = refl
in_front (Err f) b c = refl

pub qubits_of-append : (n : ℕ) (xs ys : List QubitRef) (cells : Cells)
    → qubits_of n (xs ++ ys) cells ≡ and_then (qubits_of n xs cells) (λ os. and_then (qubits_of n ys cells) (λ zs. Ok (os ++ zs)))
qubits_of-append n [] ys cells = same_list (qubits_of n ys cells)
qubits_of-append n (x ∷ xs) ys cells =
    ap (λ (r : Evaluated (List ℕ)). and_then (qubit_of n x cells) (λ q. and_then r (λ qs. Ok (q ∷ qs)))) (qubits_of-append n xs ys cells)
    ∙ in_front (qubit_of n x cells) (qubits_of n xs cells) (qubits_of n ys cells)

abbrev pub names : List QubitRef → Cells → List ℕ
names xs cells = map (λ r. named_by r cells) xs

abbrev pub Agrees : {A : Type 0} → Evaluated A → A → Type 0
Agrees (Ok a) b = a ≡ b
Agrees (Err f) b = Unit {0}

-- a qubit that is found is the one that is named
tested : (b : Bool) (q : ℕ) → Agrees (cond b (Ok q) (Err Index)) q
tested true q = refl
tested false q = tt

pub named : (n : ℕ) (r : QubitRef) (cells : Cells) → Agrees (qubit_of n r cells) (named_by r cells)
named n (qubit.At q) cells = refl
named n (qubit.Work cell) cells = tested (nat_lt (cells cell) n) (cells cell)

one_named : (a : Evaluated ℕ) (b : Evaluated (List ℕ)) (q : ℕ) (qs : List ℕ) → Agrees a q → Agrees b qs
    → Agrees (and_then a (λ x. and_then b (λ xs. Ok (x ∷ xs)))) (q ∷ qs)
one_named (Ok x) (Ok xs) q qs e f = λ i. e i ∷ f i
one_named (Ok x) (Err g) q qs e f = tt
one_named (Err g) b q qs e f = tt

pub all_named : (n : ℕ) (xs : List QubitRef) (cells : Cells) → Agrees (qubits_of n xs cells) (names xs cells)
all_named n [] cells = refl
all_named n (x ∷ xs) cells = one_named (qubit_of n x cells) (qubits_of n xs cells) (named_by x cells) (names xs cells) (named n x cells) (all_named n xs cells)

-- ---- the qubits of a primitive one after the other

with_qubits-append : (xs ys : List ℕ) (s : Named) → with_qubits (xs ++ ys) s ≡ with_qubits ys (with_qubits xs s)
with_qubits-append [] ys s = refl
with_qubits-append (x ∷ xs) ys s = with_qubits-append xs ys (with_qubit x s)

twice_turned : (os zs : List ℕ) (t : ℕ) → some_twice (os ++ (zs ++ (t ∷ []))) ≡ (with_qubit t (with_qubits zs (with_qubits os no_qubits))).twice
twice_turned os zs t =
    sym (twice_named (os ++ (zs ++ (t ∷ []))) no_qubits refl refl)
    ∙ ap (λ (s : Named). s.twice) (with_qubits-append os (zs ++ (t ∷ [])) no_qubits ∙ with_qubits-append zs (t ∷ []) (with_qubits os no_qubits))

twice_phased : (os zs : List ℕ) → some_twice (os ++ zs) ≡ (with_qubits zs (with_qubits os no_qubits)).twice
twice_phased os zs = sym (twice_named (os ++ zs) no_qubits refl refl) ∙ ap (λ (s : Named). s.twice) (with_qubits-append os zs no_qubits)

-- ---- U

abbrev made : Evaluated EighthPrimitive → Evaluated FixedPrim
made r = and_then r (λ e. Ok (prim_of e))

angles_turned : (os zs : List ℕ) (t : ℕ) (a b c : Option ℕ) → made (or_fault BadAngle (turned_by os zs t a b c)) ≡ turn_if (mask_of os) (mask_of zs) t a b c
angles_turned os zs t (Some a) (Some b) (Some c) = refl
angles_turned os zs t (Some a) (Some b) None = refl
angles_turned os zs t (Some a) None c = refl
angles_turned os zs t None b c = refl

if_turned : (s : Bool) (qs os zs : List ℕ) (t : ℕ) (a b c : Option ℕ)
    → made (and_then (cond s (Err SameQubit) (Ok qs)) (λ (qs : List ℕ). or_fault BadAngle (turned_by os zs t a b c)))
    ≡ cond s (Err SameQubit) (turn_if (mask_of os) (mask_of zs) t a b c)
if_turned true qs os zs t a b c = refl
if_turned false qs os zs t a b c = angles_turned os zs t a b c

abbrev in_turn : Evaluated (List ℕ) → Evaluated (List ℕ) → Evaluated ℕ → Evaluated (List ℕ)
in_turn r1 r2 r3 = and_then r1 (λ os. and_then (and_then r2 (λ zs. and_then (and_then r3 (λ t. Ok (t ∷ []))) (λ ts. Ok (zs ++ ts)))) (λ rest. Ok (os ++ rest)))

abbrev masks_in : Evaluated (List ℕ) → Evaluated (List ℕ) → Evaluated Masks
masks_in r1 r2 = and_then r1 (λ os. and_then r2 (λ zs. Ok (record { ones = mask_of os; zeros = mask_of zs; all = with_qubits zs (with_qubits os no_qubits) })))

body_turned : (r1 r2 : Evaluated (List ℕ)) (r3 : Evaluated ℕ) (os zs : List ℕ) (t : ℕ) (a b c : Option ℕ) → Agrees r1 os → Agrees r2 zs → Agrees r3 t
    → made (and_then (and_then (in_turn r1 r2 r3) different) (λ (qs : List ℕ). or_fault BadAngle (turned_by os zs t a b c)))
    ≡ and_then (masks_in r1 r2) (λ m. and_then r3 (λ t. unless_twice (with_qubit t m.all) (turn_if m.ones m.zeros t a b c)))
body_turned (Ok x) (Ok y) (Ok u) os zs t a b c e f g =
    ap (λ (s : Bool). made (and_then (cond s (Err SameQubit) (Ok (x ++ (y ++ (u ∷ []))))) (λ (qs : List ℕ). or_fault BadAngle (turned_by os zs t a b c)))) (twice_turned x y u)
    ∙ if_turned (with_qubit u (with_qubits y (with_qubits x no_qubits))).twice (x ++ (y ++ (u ∷ []))) os zs t a b c
    ∙ (λ i. cond (with_qubit u (with_qubits y (with_qubits x no_qubits))).twice (Err SameQubit) (turn_if (mask_of (sym e i)) (mask_of (sym f i)) (sym g i) a b c))
body_turned (Ok x) (Ok y) (Err h) os zs t a b c e f g = refl
body_turned (Ok x) (Err h) r3 os zs t a b c e f g = refl
body_turned (Err h) r2 r3 os zs t a b c e f g = refl

pub turn_is : (n : ℕ) (ones zeros : List QubitRef) (q : QubitRef) (theta phi lambda : AngleRef) (cells : Cells)
    → and_then (primitive_by n (primitive.Turn ones zeros q theta phi lambda) cells) (λ e. Ok (prim_of e))
    ≡ turn_by n ones zeros q (eighth_known (angle_by theta cells)) (eighth_known (angle_by phi cells)) (eighth_known (angle_by lambda cells)) cells
turn_is n ones zeros q theta phi lambda cells =
    let a : Option ℕ = eighth_known (angle_by theta cells) in
    let b : Option ℕ = eighth_known (angle_by phi cells) in
    let c : Option ℕ = eighth_known (angle_by lambda cells) in
    let os : List ℕ = names ones cells in
    let zs : List ℕ = names zeros cells in
    let t : ℕ = named_by q cells in
    let all : qubits_of n (ones ++ (zeros ++ (q ∷ []))) cells ≡ in_turn (qubits_of n ones cells) (qubits_of n zeros cells) (qubit_of n q cells) =
    qubits_of-append n ones (zeros ++ (q ∷ [])) cells
    ∙ ap (λ (r : Evaluated (List ℕ)). and_then (qubits_of n ones cells) (λ os. and_then r (λ rest. Ok (os ++ rest)))) (qubits_of-append n zeros (q ∷ []) cells) in
    ap (λ (r : Evaluated (List ℕ)). made (and_then (and_then r different) (λ (qs : List ℕ). or_fault BadAngle (turned_by os zs t a b c)))) all
    ∙ body_turned (qubits_of n ones cells) (qubits_of n zeros cells) (qubit_of n q cells) os zs t a b c (all_named n ones cells) (all_named n zeros cells) (named n q cells)

-- ---- a global phase

angle_phased : (os zs : List ℕ) (a : Option ℕ) → made (or_fault BadAngle (phased_by os zs a)) ≡ phase_if (mask_of os) (mask_of zs) a
angle_phased os zs (Some a) = refl
angle_phased os zs None = refl

if_phased : (s : Bool) (qs os zs : List ℕ) (a : Option ℕ)
    → made (and_then (cond s (Err SameQubit) (Ok qs)) (λ (qs : List ℕ). or_fault BadAngle (phased_by os zs a)))
    ≡ cond s (Err SameQubit) (phase_if (mask_of os) (mask_of zs) a)
if_phased true qs os zs a = refl
if_phased false qs os zs a = angle_phased os zs a

body_phased : (r1 r2 : Evaluated (List ℕ)) (os zs : List ℕ) (a : Option ℕ) → Agrees r1 os → Agrees r2 zs
    → made (and_then (and_then (and_then r1 (λ os. and_then r2 (λ zs. Ok (os ++ zs)))) different) (λ (qs : List ℕ). or_fault BadAngle (phased_by os zs a)))
    ≡ and_then (masks_in r1 r2) (λ m. unless_twice m.all (phase_if m.ones m.zeros a))
body_phased (Ok x) (Ok y) os zs a e f =
    ap (λ (s : Bool). made (and_then (cond s (Err SameQubit) (Ok (x ++ y))) (λ (qs : List ℕ). or_fault BadAngle (phased_by os zs a)))) (twice_phased x y)
    ∙ if_phased (with_qubits y (with_qubits x no_qubits)).twice (x ++ y) os zs a
    ∙ (λ i. cond (with_qubits y (with_qubits x no_qubits)).twice (Err SameQubit) (phase_if (mask_of (sym e i)) (mask_of (sym f i)) a))
body_phased (Ok x) (Err h) os zs a e f = refl
body_phased (Err h) r2 os zs a e f = refl

pub phase_is : (n : ℕ) (ones zeros : List QubitRef) (gamma : AngleRef) (cells : Cells)
    → and_then (primitive_by n (primitive.Phase ones zeros gamma) cells) (λ e. Ok (prim_of e))
    ≡ phase_by n ones zeros (eighth_known (angle_by gamma cells)) cells
phase_is n ones zeros gamma cells =
    let a : Option ℕ = eighth_known (angle_by gamma cells) in
    let os : List ℕ = names ones cells in
    let zs : List ℕ = names zeros cells in
    ap (λ (r : Evaluated (List ℕ)). made (and_then (and_then r different) (λ (qs : List ℕ). or_fault BadAngle (phased_by os zs a)))) (qubits_of-append n ones zeros cells)
    ∙ body_phased (qubits_of n ones cells) (qubits_of n zeros cells) os zs a (all_named n ones cells) (all_named n zeros cells)
