-- The matrix of each call of a well formed gate is unitary, and has the call's size.
use Rattle.std.proofs.Common.{◌≡◌, ℕ, zero, suc, ℤ, pos, negsuc, List, [], ◌∷◌, length, map, Option, Some, None, refl, sym, ap, subst, ◌∙◌}
use Rattle.std.specs.List.{All}
use Rattle.qt_ring.specs.declared.omega.Omega.{Omega}
use Rattle.qt_ring.specs.Ring.{times, root}
use Rattle.qt_ring.specs.Places.{Bits}
use Rattle.qt_ring.specs.Matrix.{Matrix, Operator, product, adjoint, twice_u, IsUnitary, u_gate, phase_gate}
use Rattle.qt_ring.proofs.RingLaws.{conj_conj}
use Rattle.qt_ring.proofs.Bits.{Long}
use Rattle.qt_ring.proofs.Sums.{sum_ext}
use Rattle.qt_ring.proofs.Unitary.{u_unitary, phase_unitary}
use Rattle.qt_gate_calls.specs.declared.body.GateModifier.{GateModifier}
use Rattle.qt_gate_calls.specs.declared.body.GateModifier.TheVariants.{Inv, Pow, Ctrl, NegCtrl}
use Rattle.qt_gate_calls.specs.declared.body.Called.{Called}
use Rattle.qt_gate_calls.specs.declared.body.Called.TheVariants as called
use Rattle.qt_gate_calls.specs.declared.body.BodyCall.{BodyCall}
use Rattle.qt_gate_calls.specs.declared.body.GateBody.{GateBody}
use Rattle.qt_gate_calls.specs.Angles.{value}
use Rattle.qt_gate_calls.specs.Numbered.{if_number, numbered_from}
use Rattle.qt_gate_calls.specs.Units.{KnownUnits, nth_known, eighth_known, root_at, circle}
use Rattle.qt_gate_calls.specs.Matrices.{Matrices, inverted, nothing_on, after, power, raised, modified, u_matrix, phase_matrix, call_matrix, on, calls_matrix, body_matrix, matrices_of}
use Rattle.qt_meaning.specs.WellFormed.{call_size, BodyCallFits, GatesFitFrom, GatesFit, gate_sizes}
use Rattle.qt_meaning_laws.specs.Unitary.{CallsAreUnitary, CallsHaveTheirSize}
use Rattle.qt_meaning_laws.proofs.Runs.{all_first, all_later}
use Rattle.qt_meaning_laws.proofs.Matrices.{IsUnitaryMatrix, identity_unitary, adjoint_unitary, product_unitary, ctrl_unitary, negctrl_unitary, embedded_unitary}

-- ---- unitary operators by their rows and columns

pub long_of : (n : ℕ) (x : Bits) → length x ≡ n → Long n x
long_of zero [] e = tt
long_of zero (b ∷ x) e = absurd (cc)
long_of (suc n) [] e = absurd (cc)
long_of (suc n) (b ∷ x) e = long_of n x (cc)

pub length_of : (n : ℕ) (x : Bits) → Long n x → length x ≡ n
length_of zero [] l = refl
length_of zero (b ∷ x) l = absurd l
length_of (suc n) [] l = absurd l
length_of (suc n) (b ∷ x) l = ap suc (length_of n x l)

abbrev pub IsUnitaryOperator : Operator → Type 0
IsUnitaryOperator g = IsUnitaryMatrix g.size g.halvings g.entries

columns_of : (k : ℕ) (m : Matrix) (x y : Bits) → product k (adjoint m) (adjoint (adjoint m)) x y ≡ product k (adjoint m) m x y
columns_of k m x y = sum_ext k _ _ (λ z l. ap (times (adjoint m x z)) (conj_conj (m z y)))

pub parts_of_unitary : (g : Operator) → IsUnitary g → IsUnitaryOperator g
parts_of_unitary g u = record {
  rows = record { by = λ x y l j. u.rows x y (length_of g.size x l) (length_of g.size y j) };
  columns = record { by = λ x y l j. columns_of g.size g.entries x y ∙ u.columns x y (length_of g.size x l) (length_of g.size y j) };
}

pub unitary_by_parts : (g : Operator) → IsUnitaryOperator g → IsUnitary g
unitary_by_parts g t = record {
  rows = λ x y e f. t.rows.by x y (long_of g.size x e) (long_of g.size y f);
  columns = λ x y e f. sym (columns_of g.size g.entries x y) ∙ t.columns.by x y (long_of g.size x e) (long_of g.size y f);
}

-- it is unitary, on k qubits
pub record IsUnitaryOn (k : ℕ) (g : Operator) : Type 0 where
  pub unitary : IsUnitaryOperator g
  pub size : g.size ≡ k

-- ---- U and gphase: at any angle e^{iu} is a power of ω

root_at_is : (eighths : Option ℕ) → (n : ℕ) × (root_at eighths ≡ root n)
root_at_is None = (0, refl)
root_at_is (Some eighths) = (eighths, refl)

circle_is : (a : KnownUnits) → (n : ℕ) × (circle a ≡ root n)
circle_is a = root_at_is (eighth_known a)

u_matrix_unitary : (theta phi lambda : KnownUnits) → IsUnitaryOn 1 (u_matrix theta phi lambda)
u_matrix_unitary theta phi lambda =
    let a = circle_is theta in
    let b = circle_is phi in
    let c = circle_is lambda in
    let t : IsUnitaryMatrix 1 1 (twice_u (root a.0) (root b.0) (root c.0)) = parts_of_unitary (u_gate a.0 b.0 c.0) (u_unitary a.0 b.0 c.0) in
    let e : twice_u (root a.0) (root b.0) (root c.0) ≡ twice_u (circle theta) (circle phi) (circle lambda) =
    ap (λ x. twice_u x (root b.0) (root c.0)) (sym a.1) ∙ ap (λ x. twice_u (circle theta) x (root c.0)) (sym b.1) ∙ ap (λ x. twice_u (circle theta) (circle phi) x) (sym c.1) in
    record { unitary = subst (IsUnitaryMatrix 1 1) e t; size = refl }

phase_matrix_unitary : (gamma : KnownUnits) → IsUnitaryOn 0 (phase_matrix gamma)
phase_matrix_unitary gamma =
    let c = circle_is gamma in
    let t : IsUnitaryMatrix 0 0 (λ x y. root c.0) = parts_of_unitary (phase_gate c.0) (phase_unitary c.0) in
    let constant : Omega → Matrix = λ r x y. r in
    record { unitary = subst (λ r. IsUnitaryMatrix 0 0 (constant r)) (sym c.1) t; size = refl }

-- ---- modifiers

after_unitary : (k : ℕ) (a b : Operator) → IsUnitaryOn k a → IsUnitaryOn k b → IsUnitaryOn k (after k a b)
after_unitary k a b s t = record {
  unitary = product_unitary k a.halvings b.halvings a.entries b.entries
      (subst (λ n. IsUnitaryMatrix n a.halvings a.entries) s.size s.unitary) (subst (λ n. IsUnitaryMatrix n b.halvings b.entries) t.size t.unitary);
  size = refl;
}

nothing_unitary : (k : ℕ) → IsUnitaryOn k (nothing_on k)
nothing_unitary k = record { unitary = identity_unitary k 0; size = refl }

inverted_unitary : (k : ℕ) (g : Operator) → IsUnitaryOn k g → IsUnitaryOn k (inverted g)
inverted_unitary k g t = record { unitary = adjoint_unitary g.size g.halvings g.entries t.unitary; size = t.size }

power_unitary : (n : ℕ) (g : Operator) → IsUnitaryOperator g → IsUnitaryOn g.size (power n g)
power_unitary zero g t = nothing_unitary g.size
power_unitary (suc n) g t = after_unitary g.size g (power n g) (record { unitary = t; size = refl }) (power_unitary n g t)

raised_unitary : (exponent : ℤ) (g : Operator) → IsUnitaryOperator g → IsUnitaryOn g.size (raised exponent g)
raised_unitary (pos n) g t = power_unitary n g t
raised_unitary (negsuc n) g t = power_unitary (suc n) (inverted g) (adjoint_unitary g.size g.halvings g.entries t)

modified_unitary : (sizes : ℕ → ℕ) (m : GateModifier) (ms : List GateModifier) (gate : Called) (g : Operator) → IsUnitaryOn (call_size sizes ms gate) g → IsUnitaryOn (call_size sizes (m ∷ ms) gate) (modified m g)
modified_unitary sizes Inv ms gate g t = inverted_unitary (call_size sizes ms gate) g t
modified_unitary sizes (Pow exponent) ms gate g t = let r = raised_unitary exponent g t.unitary in record { unitary = r.unitary; size = r.size ∙ t.size }
modified_unitary sizes Ctrl ms gate g t = record { unitary = ctrl_unitary g.size g.halvings g.entries t.unitary; size = ap suc t.size }
modified_unitary sizes NegCtrl ms gate g t = record { unitary = negctrl_unitary g.size g.halvings g.entries t.unitary; size = ap suc t.size }

-- ---- calls

abbrev AllUnitary : (ℕ → ℕ) → Matrices → Type 0
AllUnitary sizes gates = (i : ℕ) (given : List KnownUnits) → IsUnitaryOn (sizes i) (gates i given)

call_unitary : (sizes : ℕ → ℕ) (gates : Matrices) → AllUnitary sizes gates → (ms : List GateModifier) (gate : Called) (angles : List KnownUnits) → IsUnitaryOn (call_size sizes ms gate) (call_matrix gates ms gate angles)
call_unitary sizes gates t [] called.U angles = u_matrix_unitary (nth_known 0 angles) (nth_known 1 angles) (nth_known 2 angles)
call_unitary sizes gates t [] called.GlobalPhase angles = phase_matrix_unitary (nth_known 0 angles)
call_unitary sizes gates t [] (called.Gate i) angles = t i angles
call_unitary sizes gates t (m ∷ ms) gate angles = modified_unitary sizes m ms gate _ (call_unitary sizes gates t ms gate angles)

on_unitary : (sizes : ℕ → ℕ) (k : ℕ) (c : BodyCall) (g : Operator) → BodyCallFits sizes k c → IsUnitaryOn (call_size sizes c.modifiers c.gate) g → IsUnitaryOn k (on k c.qubits g)
on_unitary sizes k c g fits t = record {
  unitary = embedded_unitary k g.halvings g.entries c.qubits fits.1 (subst (λ n. IsUnitaryMatrix n g.halvings g.entries) (t.size ∙ sym fits.0) t.unitary);
  size = refl;
}

calls_unitary : (sizes : ℕ → ℕ) (gates : Matrices) → AllUnitary sizes gates → (k : ℕ) (calls : List BodyCall) (given : List KnownUnits) → All (BodyCallFits sizes k) calls → IsUnitaryOn k (calls_matrix gates k calls given)
calls_unitary sizes gates t k [] given fits = nothing_unitary k
calls_unitary sizes gates t k (c ∷ calls) given fits =
    after_unitary k _ _
    (calls_unitary sizes gates t k calls given (all_later (BodyCallFits sizes k) c calls fits))
    (on_unitary sizes k c _ (all_first (BodyCallFits sizes k) c calls fits) (call_unitary sizes gates t c.modifiers c.gate (map (value given) c.angles)))

-- ---- gates by number

if_number_unitary : (n i k l : ℕ) (a b : List KnownUnits → Operator) → ((given : List KnownUnits) → IsUnitaryOn k (a given)) → ((given : List KnownUnits) → IsUnitaryOn l (b given)) → (given : List KnownUnits) → IsUnitaryOn (if_number n i k l) (if_number n i a b given)
if_number_unitary zero zero k l a b s t given = s given
if_number_unitary (suc n) (suc i) k l a b s t given = if_number_unitary n i k l a b s t given
if_number_unitary zero (suc i) k l a b s t given = t given
if_number_unitary (suc n) zero k l a b s t given = t given

gates_unitary : (n : ℕ) (sizes : ℕ → ℕ) (gates : Matrices) (bodies : List GateBody) → AllUnitary sizes gates → GatesFitFrom n sizes bodies → AllUnitary (numbered_from (λ s body. body.qubits) n bodies sizes) (numbered_from body_matrix n bodies gates)
gates_unitary n sizes gates [] t fits = t
gates_unitary n sizes gates (body ∷ bodies) t fits =
    gates_unitary (suc n) (λ i. if_number n i body.qubits (sizes i)) (λ i. if_number n i (body_matrix gates body) (gates i)) bodies
    (λ i given. if_number_unitary n i body.qubits (sizes i) (body_matrix gates body) (gates i) (λ given. calls_unitary sizes gates t body.qubits body.calls given fits.0) (t i) given)
    fits.1

pub each_call_unitary : (gates : List GateBody) → GatesFit gates → (ms : List GateModifier) (gate : Called) (angles : List KnownUnits) → IsUnitaryOn (call_size (gate_sizes gates) ms gate) (call_matrix (matrices_of gates) ms gate angles)
each_call_unitary gates fits = call_unitary (gate_sizes gates) (matrices_of gates) (gates_unitary 0 (λ i. 0) (λ i given. nothing_on 0) gates (λ i given. nothing_unitary 0) fits)

pub calls_are_unitary : CallsAreUnitary
calls_are_unitary = λ gates fits ms gate angles. unitary_by_parts _ (each_call_unitary gates fits ms gate angles).unitary

pub calls_have_their_size : CallsHaveTheirSize
calls_have_their_size = λ gates fits ms gate angles. (each_call_unitary gates fits ms gate angles).size
