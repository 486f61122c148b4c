-- Controls as a list and as masks hold of the same basis states, so the primitive under masks acts as the matrix that is meant.
use Rattle.std.proofs.Common.{◌≡◌, ℕ, ◌+◌, ◌<◌, Bool, true, false, not, ◌&&◌, ◌||◌, nat_eq, List, [], ◌∷◌, ◌++◌, Option, Some, None, Result, Ok, Err, IfOk, IsTrue, refl, sym, ap, subst, ◌∙◌, eq-eqb, cond, arith}
use Rattle.std.specs.List.{list_all}
use borrow.Author.Tests.{eqb-true}
use Rattle.qt_ring.specs.Ring.{times, two_to}
use Rattle.qt_ring.specs.Places.{Bits, at, AreQubits}
use Rattle.qt_ring.specs.Matrix.{Operator, controlled, u_gate, phase_gate}
use Rattle.qt_ring.specs.State.{State, HasAllEntries, applied, entries_by}
use Rattle.qt_ring.proofs.Bits.{Long}
use Rattle.qt_ring.proofs.Sums.{act}
use Rattle.qt_ring.proofs.Acts.{choose}
use Rattle.qt_ring.proofs.Entries.{entry, entries_by_ext}
use Rattle.qt_ring.proofs.Gates.{applied_acts}
use Rattle.qt_gate_calls.specs.Faults.{EighthPrimitive, turned_by, phased_by}
use Rattle.qt_gate_calls.specs.Matrices.{controlled_on_zero}
use Rattle.qt_gate_calls.specs.Primitives.{Turned, Phased}
use Rattle.qt_gate_calls.specs.Units.{eighth_known}
use Rattle.qt_meaning.specs.Applying.{is_among, some_twice, different}
use Rattle.qt_meaning.specs.Values.{Evaluated, BadAngle, SameQubit, and_then, or_fault}
use Rattle.qt_code_rules.specs.declared.sizes.Sizes.{Sizes}
use Rattle.qt_code_rules.specs.Sizes.{has_reference, has_angle}
use Rattle.qt_instructions.specs.declared.primitive.Primitive.{Primitive}
use Rattle.qt_instructions.specs.declared.primitive.Primitive.TheVariants as primitive
use Rattle.qt_instructions.specs.declared.reference.QubitRef.{QubitRef}
use Rattle.qt_code.specs.Cells.{Cells, angle_by, named_by, qubits_of, primitive_by}
use Rattle.qt_code.specs.Ranges.{has_primitive}
use Rattle.qt_code.specs.Tail.{under_ones, under_zeros, operands_of}
use Rattle.qt_code.proofs.Differing.{all_turned, all_phased}
use Rattle.qt_embedding.specs.Controls.{Control, under_all, qubits_under, controls_from}
use Rattle.qt_embedding.proofs.Controls.{act_under_all, halvings-under_all}
use Rattle.qt_embedding.proofs.Masks.{agrees, holds, holds_fine, fine_holds, masks_fit_one, masks_fit_none}
use Rattle.qt_embedding.proofs.Tests.{iff, and_left, and_right, and_both}
use Rattle.qt_kernel.specs.declared.primitive.FixedPrim.{FixedPrim}
use Rattle.qt_kernel.specs.Primitives.{IsPrim}
use Rattle.qt_machine.specs.declared.fault.InstrFault.{InstrFault}
use Rattle.qt_machine.specs.Faults.{meant}
use Rattle.qt_resolved_gates.specs.Resolved.{mask_of, prim_of, ActsAs, HasAngles}
use Rattle.qt_resolved_gates.proofs.Apart.{Below, Good, all_below, are_qubits, front_qubits, back_qubits, whole_below, is_inside, bit_inside, are_masks, is_target, controls_of_turn, or_true, member_below}
use Rattle.qt_resolved_gates.proofs.Stepping.{Agrees, names, all_named}

-- ---- controls in a list

abbrev asking : Bool → List ℕ → List Control → List Control
asking b [] cs = cs
asking b (q ∷ qs) cs = record { qubit = q; value = b } ∷ asking b qs cs

abbrev listed : List ℕ → List ℕ → List Control
listed os zs = asking true os (asking false zs [])

ones_are : (qs : List ℕ) (cs : List Control) (g h : Operator) → h ≡ under_all cs g → under_ones qs h ≡ under_all (asking true qs cs) g
ones_are [] cs g h e = e
ones_are (q ∷ qs) cs g h e = ap controlled (ones_are qs cs g h e)

zeros_are : (qs : List ℕ) (cs : List Control) (g h : Operator) → h ≡ under_all cs g → under_zeros qs h ≡ under_all (asking false qs cs) g
zeros_are [] cs g h e = e
zeros_are (q ∷ qs) cs g h e = ap controlled_on_zero (zeros_are qs cs g h e)

listed_is : (os zs : List ℕ) (g : Operator) → under_ones os (under_zeros zs g) ≡ under_all (listed os zs) g
listed_is os zs g = ones_are os (asking false zs []) g (under_zeros zs g) (zeros_are zs [] g g refl)

qubits_asking : (b : Bool) (qs : List ℕ) (cs : List Control) (ts : List ℕ) → qubits_under (asking b qs cs) ts ≡ qs ++ qubits_under cs ts
qubits_asking b [] cs ts = refl
qubits_asking b (q ∷ qs) cs ts = ap (λ (l : List ℕ). q ∷ l) (qubits_asking b qs cs ts)

qubits_listed : (os zs ts : List ℕ) → qubits_under (listed os zs) ts ≡ os ++ (zs ++ ts)
qubits_listed os zs ts = qubits_asking true os (asking false zs []) ts ∙ ap (λ (l : List ℕ). os ++ l) (qubits_asking false zs [] ts)

-- ---- they hold of the same basis states

abbrev Ask : Bool → List ℕ → Bits → Type 0
Ask b qs x = (q : ℕ) → is_among q qs ≡ true → agrees b (at q x) ≡ true

first_asks : (b : Bool) (p q : ℕ) (rest : Bool) (x : Bits) → agrees b (at q x) ≡ true → (rest ≡ true → agrees b (at p x) ≡ true)
    → (t : Bool) → nat_eq p q ≡ t → (t || rest) ≡ true → agrees b (at p x) ≡ true
first_asks b p q rest x h next true e g = subst (λ (k : ℕ). agrees b (at k x) ≡ true) (sym (eqb-true p q e)) h
first_asks b p q rest x h next false e g = next g

holds_from : (b : Bool) (qs : List ℕ) (cs : List Control) (x : Bits) → holds (asking b qs cs) x ≡ true → (holds cs x ≡ true) × Ask b qs x
holds_from b [] cs x h = (h, λ q e. absurd (cc))
holds_from b (q ∷ qs) cs x h =
    let rest = holds_from b qs cs x (and_right (agrees b (at q x)) (holds (asking b qs cs) x) h) in
    let here : agrees b (at q x) ≡ true = and_left (agrees b (at q x)) (holds (asking b qs cs) x) h in
    (rest.0, λ p e. first_asks b p q (is_among p qs) x here (rest.1 p) (nat_eq p q) refl e)

holds_to : (b : Bool) (qs : List ℕ) (cs : List Control) (x : Bits) → holds cs x ≡ true → Ask b qs x → holds (asking b qs cs) x ≡ true
holds_to b [] cs x h a = h
holds_to b (q ∷ qs) cs x h a =
    and_both (agrees b (at q x)) (holds (asking b qs cs) x)
    (a q (ap (λ t. t || is_among q qs) (eq-eqb q q refl)))
    (holds_to b qs cs x h (λ p e. a p (or_true (nat_eq p q) (is_among p qs) e)))

unset : (b : Bool) → agrees false b ≡ true → b ≡ false
unset true e = absurd (cc)
unset false e = refl

same_holds : (n : ℕ) (os zs : List ℕ) (x : Bits) → Below n os → Below n zs → holds (controls_from 0 n (mask_of os) (mask_of zs)) x ≡ holds (listed os zs) x
same_holds n os zs x h k = iff (holds (controls_from 0 n (mask_of os) (mask_of zs)) x) (holds (listed os zs) x)
    (λ e. holds_to true os (asking false zs []) x
    (holds_to false zs [] x refl (λ q m.
    let l : q < n = member_below n zs q k m in
    ap not ((holds_fine n 0 (mask_of os) (mask_of zs) x e q (omega arith) (omega arith)).unset (bit_inside zs q m))))
    (λ q m.
    let l : q < n = member_below n os q h m in
    (holds_fine n 0 (mask_of os) (mask_of zs) x e q (omega arith) (omega arith)).set (bit_inside os q m)))
    (λ e.
    let a = holds_from true os (asking false zs []) x e in
    let b = holds_from false zs [] x a.0 in
    fine_holds n 0 (mask_of os) (mask_of zs) x (λ r l m. record {
      set = λ p. a.1 r (is_inside os r p);
      unset = λ p. unset (at r x) (b.1 r (is_inside zs r p));
    }))

-- ---- so the products are the same

same_controls : (cs ds : List Control) (g : Operator) (ts : List ℕ) (s : State) → AreQubits s.qubits (qubits_under cs ts)
    → AreQubits s.qubits (qubits_under ds ts) → HasAllEntries s → ((x : Bits) → Long s.qubits x → holds cs x ≡ holds ds x)
    → applied (under_all cs g) (qubits_under cs ts) s ≡ applied (under_all ds g) (qubits_under ds ts) s
unfolding applied
same_controls cs ds g ts s f k h same =
    let acting = λ (c : List Control) (x : Bits). act (under_all c g).entries (qubits_under c ts) (entry s.entries) x in
    let one = applied_acts (under_all cs g) (qubits_under cs ts) s f h in
    let other = applied_acts (under_all ds g) (qubits_under ds ts) s k h in
    let between : entries_by s.qubits (acting cs) ≡ entries_by s.qubits (acting ds) = entries_by_ext s.qubits (acting cs) (acting ds) (λ x l.
    act_under_all cs g ts (entry s.entries) x
    ∙ ap (λ b. choose b (act g.entries ts (entry s.entries) x) (times (two_to g.halvings) (entry s.entries x))) (same x l)
    ∙ sym (act_under_all ds g ts (entry s.entries) x)) in
    let entries = one ∙ between ∙ sym other in
    let halvings : (under_all cs g).halvings ≡ (under_all ds g).halvings = halvings-under_all cs g ∙ sym (halvings-under_all ds g) in
    λ i. record { qubits = s.qubits; entries = entries i; halvings = s.halvings + halvings i }

listed_product : (os zs ts : List ℕ) (g : Operator) (s : State)
    → applied (under_all (listed os zs) g) (qubits_under (listed os zs) ts) s ≡ applied (under_ones os (under_zeros zs g)) (os ++ (zs ++ ts)) s
listed_product os zs ts g s = λ i. applied (sym (listed_is os zs g) i) (qubits_listed os zs ts i) s

turn_acts : (n : ℕ) (os zs : List ℕ) (t theta phi lambda : ℕ) → AreQubits n (os ++ (zs ++ (t ∷ [])))
    → ActsAs n (Turned os zs t theta phi lambda) (prim_of (Turned os zs t theta phi lambda))
turn_acts n os zs t theta phi lambda a = λ s q h.
    let all : AreQubits s.qubits (os ++ (zs ++ (t ∷ []))) = subst (λ (m : ℕ). AreQubits m (os ++ (zs ++ (t ∷ [])))) (sym q) a in
    let controls : AreQubits s.qubits (os ++ zs) = controls_of_turn s.qubits os zs t all in
    let m : ℕ = s.qubits in
    same_controls (controls_from 0 m (mask_of os) (mask_of zs)) (listed os zs) (u_gate theta phi lambda) (t ∷ []) s
    (masks_fit_one m (mask_of os) (mask_of zs) t (are_masks m os zs controls) (is_target m os zs t all))
    (subst (AreQubits m) (sym (qubits_listed os zs (t ∷ []))) all) h
    (λ x l. same_holds m os zs x (front_qubits m os zs controls) (whole_below m zs (back_qubits m os zs controls)))
    ∙ listed_product os zs (t ∷ []) (u_gate theta phi lambda) s

nothing_behind : (xs : List ℕ) → xs ++ [] ≡ xs
nothing_behind [] = refl
nothing_behind (x ∷ xs) = ap (λ (l : List ℕ). x ∷ l) (nothing_behind xs)

phase_acts : (n : ℕ) (os zs : List ℕ) (gamma : ℕ) → AreQubits n (os ++ zs) → ActsAs n (Phased os zs gamma) (prim_of (Phased os zs gamma))
phase_acts n os zs gamma a = λ s q h.
    let controls : AreQubits s.qubits (os ++ zs) = subst (λ (m : ℕ). AreQubits m (os ++ zs)) (sym q) a in
    let m : ℕ = s.qubits in
    let behind : os ++ (zs ++ []) ≡ os ++ zs = ap (λ (l : List ℕ). os ++ l) (nothing_behind zs) in
    same_controls (controls_from 0 m (mask_of os) (mask_of zs)) (listed os zs) (phase_gate gamma) [] s
    (masks_fit_none m (mask_of os) (mask_of zs) (are_masks m os zs controls))
    (subst (AreQubits m) (sym (qubits_listed os zs [] ∙ behind)) controls) h
    (λ x l. same_holds m os zs x (front_qubits m os zs controls) (whole_below m zs (back_qubits m os zs controls)))
    ∙ listed_product os zs [] (phase_gate gamma) s
    ∙ (λ i. applied (under_ones os (under_zeros zs (phase_gate gamma))) (behind i) s)

acts_as : (n : ℕ) (e : EighthPrimitive) → AreQubits n (operands_of e) → ActsAs n e (prim_of e)
acts_as n (Turned os zs t theta phi lambda) a = turn_acts n os zs t theta phi lambda a
acts_as n (Phased os zs gamma) a = phase_acts n os zs gamma a

is_prim : (n : ℕ) (e : EighthPrimitive) → AreQubits n (operands_of e) → HasAngles (prim_of e) → IsPrim n (prim_of e)
is_prim n (Turned os zs t theta phi lambda) a h = (are_masks n os zs (controls_of_turn n os zs t a), is_target n os zs t a, h.0, h.1, h.2)
is_prim n (Phased os zs gamma) a h = (are_masks n os zs a, h)

-- ---- what is found has different qubits

names-append : (xs ys : List QubitRef) (cells : Cells) → names (xs ++ ys) cells ≡ names xs cells ++ names ys cells
names-append [] ys cells = refl
names-append (x ∷ xs) ys cells = ap (λ (l : List ℕ). named_by x cells ∷ l) (names-append xs ys cells)

turned_qubits : (n : ℕ) (qs os zs : List ℕ) (t : ℕ) (a b c : Option ℕ) (e : EighthPrimitive) → AreQubits n qs → qs ≡ os ++ (zs ++ (t ∷ []))
    → or_fault BadAngle (turned_by os zs t a b c) ≡ Ok e → AreQubits n (operands_of e)
turned_qubits n qs os zs t (Some a) (Some b) (Some c) e f g h =
    let made : Turned os zs t a b c ≡ e = cc in
    subst (λ (x : EighthPrimitive). AreQubits n (operands_of x)) made (subst (AreQubits n) g f)
turned_qubits n qs os zs t (Some a) (Some b) None e f g h = absurd (cc)
turned_qubits n qs os zs t (Some a) None c e f g h = absurd (cc)
turned_qubits n qs os zs t None b c e f g h = absurd (cc)

phased_qubits : (n : ℕ) (qs os zs : List ℕ) (a : Option ℕ) (e : EighthPrimitive) → AreQubits n qs → qs ≡ os ++ zs
    → or_fault BadAngle (phased_by os zs a) ≡ Ok e → AreQubits n (operands_of e)
phased_qubits n qs os zs (Some a) e f g h =
    let made : Phased os zs a ≡ e = cc in
    subst (λ (x : EighthPrimitive). AreQubits n (operands_of x)) made (subst (AreQubits n) g f)
phased_qubits n qs os zs None e f g h = absurd (cc)

-- what comes behind the test that they differ
if_different : (n : ℕ) (qs : List ℕ) (rest : Evaluated EighthPrimitive) (e : EighthPrimitive) (P : Type 0) → Below n qs
    → (AreQubits n qs → rest ≡ Ok e → P) → (b : Bool) → some_twice qs ≡ b → and_then (cond b (Err SameQubit) (Ok qs)) (λ (l : List ℕ). rest) ≡ Ok e → P
if_different n qs rest e P k next true f h = absurd (cc)
if_different n qs rest e P k next false f h = next (are_qubits n qs k f) h

found : (n : ℕ) (r : Evaluated (List ℕ)) (named : List ℕ) (rest : Evaluated EighthPrimitive) (e : EighthPrimitive) (P : Type 0) → Agrees r named → Good (Below n) r
    → ((qs : List ℕ) → qs ≡ named → AreQubits n qs → rest ≡ Ok e → P) → and_then (and_then r different) (λ (l : List ℕ). rest) ≡ Ok e → P
found n (Ok qs) named rest e P f g next h = if_different n qs rest e P g (next qs f) (some_twice qs) refl h
found n (Err x) named rest e P f g next h = absurd (cc)

has_qubits : (sizes : Sizes) (p : Primitive) (cells : Cells) (e : EighthPrimitive) → IsTrue (has_primitive sizes p)
    → primitive_by sizes.qubits p cells ≡ Ok e → AreQubits sizes.qubits (operands_of e)
has_qubits sizes (primitive.Turn ones clear q theta phi lambda) cells e h k =
    let test = has_reference sizes in
    let refs : List QubitRef = ones ++ (clear ++ (q ∷ [])) in
    let there : IsTrue (list_all (has_reference sizes) refs) =
    all_turned (has_reference sizes) ones clear q
    ∙ and_left (list_all test ones && list_all test clear && test q) (has_angle sizes theta)
    (and_left (list_all test ones && list_all test clear && test q && has_angle sizes theta) (has_angle sizes phi)
    (and_left (list_all test ones && list_all test clear && test q && has_angle sizes theta && has_angle sizes phi) (has_angle sizes lambda) h)) in
    let named : names refs cells ≡ names ones cells ++ (names clear cells ++ (named_by q cells ∷ [])) =
    names-append ones (clear ++ (q ∷ [])) cells ∙ ap (λ (l : List ℕ). names ones cells ++ l) (names-append clear (q ∷ []) cells) in
    found sizes.qubits (qubits_of sizes.qubits refs cells) (names refs cells)
    (or_fault BadAngle (turned_by (names ones cells) (names clear cells) (named_by q cells) (eighth_known (angle_by theta cells)) (eighth_known (angle_by phi cells)) (eighth_known (angle_by lambda cells))))
    e (AreQubits sizes.qubits (operands_of e)) (all_named sizes.qubits refs cells) (all_below sizes refs cells there)
    (λ qs f a g. turned_qubits sizes.qubits qs (names ones cells) (names clear cells) (named_by q cells) (eighth_known (angle_by theta cells)) (eighth_known (angle_by phi cells))
    (eighth_known (angle_by lambda cells)) e a (f ∙ named) g)
    k
has_qubits sizes (primitive.Phase ones clear gamma) cells e h k =
    let test = has_reference sizes in
    let refs : List QubitRef = ones ++ clear in
    let there : IsTrue (list_all (has_reference sizes) refs) =
    all_phased (has_reference sizes) ones clear ∙ and_left (list_all test ones && list_all test clear) (has_angle sizes gamma) h in
    found sizes.qubits (qubits_of sizes.qubits refs cells) (names refs cells)
    (or_fault BadAngle (phased_by (names ones cells) (names clear cells) (eighth_known (angle_by gamma cells))))
    e (AreQubits sizes.qubits (operands_of e)) (all_named sizes.qubits refs cells) (all_below sizes refs cells there)
    (λ qs f a g. phased_qubits sizes.qubits qs (names ones cells) (names clear cells) (eighth_known (angle_by gamma cells)) e a (f ∙ names-append ones clear cells) g)
    k

-- ---- the answer

record IsGate (n : ℕ) (by : Evaluated EighthPrimitive) (prim : FixedPrim) : Type 0 where
  pub meant_by : EighthPrimitive
  pub found_by : by ≡ Ok meant_by
  pub is : prim ≡ prim_of meant_by

gate_of : (n : ℕ) (by : Evaluated EighthPrimitive) (prim : FixedPrim) → Ok prim ≡ and_then by (λ e. Ok (prim_of e)) → IsGate n by prim
gate_of n (Ok e) prim h = record { meant_by = e; found_by = refl; is = cc }
gate_of n (Err f) prim h = absurd (cc)

pub resolved_prim : (sizes : Sizes) (p : Primitive) (cells : Cells) (result : Result FixedPrim InstrFault) → IsTrue (has_primitive sizes p)
    → meant result ≡ and_then (primitive_by sizes.qubits p cells) (λ e. Ok (prim_of e)) → IfOk result HasAngles → IfOk result (IsPrim sizes.qubits)
resolved_prim sizes p cells (Ok prim) h m a =
    let g = gate_of sizes.qubits (primitive_by sizes.qubits p cells) prim m in
    subst (IsPrim sizes.qubits) (sym g.is) (is_prim sizes.qubits g.meant_by (has_qubits sizes p cells g.meant_by h g.found_by) (subst HasAngles g.is a))
resolved_prim sizes p cells (Err f) h m a = tt

pub resolved_acts : (sizes : Sizes) (p : Primitive) (cells : Cells) (result : Result FixedPrim InstrFault) → IsTrue (has_primitive sizes p)
    → meant result ≡ and_then (primitive_by sizes.qubits p cells) (λ e. Ok (prim_of e))
    → IfOk result (λ prim. (e : EighthPrimitive) × ((primitive_by sizes.qubits p cells ≡ Ok e) × ActsAs sizes.qubits e prim))
resolved_acts sizes p cells (Ok prim) h m =
    let g = gate_of sizes.qubits (primitive_by sizes.qubits p cells) prim m in
    (g.meant_by, (g.found_by, subst (ActsAs sizes.qubits g.meant_by) (sym g.is) (acts_as sizes.qubits g.meant_by (has_qubits sizes p cells g.meant_by h g.found_by))))
resolved_acts sizes p cells (Err f) h m = tt
