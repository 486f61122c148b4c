-- The product of the primitives' matrices on all qubits is the matrix of the call, embedded; and which qubits the primitives are on.
use Rattle.std.proofs.Common.{◌≡◌, ℕ, nat_eq, Bool, true, false, ◌||◌, List, [], ◌∷◌, length, refl, sym, ap, ◌∙◌, arith, eq-eqb}
use Rattle.std.specs.List.{All}
use Rattle.qt_ring.specs.Ring.{one, times, two_to}
use Rattle.qt_ring.specs.Places.{Bits, AreQubits}
use Rattle.qt_ring.specs.Matrix.{Matrix, Operator, kept, same, sum, identity, embedded}
use Rattle.qt_ring.proofs.RingLaws.{times_assoc, one-times, times-one, times-nil}
use Rattle.qt_ring.proofs.Bits.{Long}
use Rattle.qt_ring.proofs.Sums.{Vector, sum_ext, sum-times, times-sum, sum_swap, sum_pick, kept-times}
use Rattle.qt_ring.proofs.Products.{embedded_acts_at}
use Rattle.qt_meaning.specs.Applying.{is_among}
use Rattle.qt_meaning_laws.proofs.Matrices.{apply}
use Rattle.qt_meaning_laws.proofs.Named.{all_none, all_more}
use Rattle.qt_meaning_laws.proofs.Unitary.{long_of}
use Rattle.qt_gate_calls.specs.Primitives.{Primitives, Primitive, no_controls}
use Rattle.qt_gate_laws.specs.Primitives.{operator_of, qubits_of, product_of, HaveQubits}
use Rattle.qt_gate_laws.specs.Laws.{PrimitivesAreMatrix, PrimitivesHaveTheirQubits}
use Rattle.qt_gate_laws.proofs.Doing.{step, run, run_ext}
use Rattle.qt_gate_laws.proofs.Counting.{count_one, count}
use Rattle.qt_gate_laws.proofs.Modifying.{Follows}
use Rattle.qt_gate_laws.proofs.Following.{call_follows_matrix}
use Rattle.qt_gate_laws.proofs.Acting.{primitive_acts, primitive_halvings}

-- ---- matrices by what they make of vectors

apply_product : (k : ℕ) (a b : Matrix) (v : Vector) (x : Bits) → apply k (λ x y. sum k (λ z. times (a x z) (b z y))) v x ≡ apply k a (apply k b v) x
apply_product k a b v x =
    sum_ext k _ _ (λ z l. sum-times k (v z) (λ u. times (a x u) (b u z)))
    ∙ sum_swap k k (λ z u. times (times (a x u) (b u z)) (v z))
    ∙ sum_ext k _ _ (λ u l. sum_ext k _ _ (λ z j. times_assoc (a x u) (b u z) (v z)) ∙ sym (times-sum k (a x u) (λ z. times (b u z) (v z))))

apply_nothing : (k : ℕ) (v : Vector) (x : Bits) → Long k x → apply k (identity 0) v x ≡ v x
apply_nothing k v x l =
    sum_ext k _ _ (λ z j. kept-times (same x z) (two_to 0) (v z)) ∙ sum_pick k x (λ z. times (two_to 0) (v z)) l ∙ one-times (v x)

-- the vector of one basis state
abbrev only : Bits → Vector
only y z = kept (same y z) one

times-kept : (t : Bool) (a : _) → times a (kept t one) ≡ kept t a
times-kept true a = times-one a
times-kept false a = times-nil a

apply_only : (k : ℕ) (m : Matrix) (x y : Bits) → Long k y → apply k m (only y) x ≡ m x y
apply_only k m x y l = sum_ext k _ _ (λ z j. times-kept (same y z) (m x z)) ∙ sum_pick k y (m x) l

-- ---- primitives

product_runs : (n : ℕ) (ps : List Primitive) (v : Vector) (x : Bits) → HaveQubits n ps → Long n x → apply n (product_of n ps).entries v x ≡ run ps v x
product_runs n [] v x h l = apply_nothing n v x l
product_runs n (p ∷ ps) v x h l =
    apply_product n (product_of n ps).entries (embedded (operator_of p).entries (qubits_of p)) v x
    ∙ product_runs n ps (apply n (embedded (operator_of p).entries (qubits_of p)) v) x h.1 l
    ∙ run_ext n ps _ (step p v) x l (λ y j. embedded_acts_at n (operator_of p).entries (qubits_of p) v y h.0 j ∙ primitive_acts p v y)

product_halvings : (n : ℕ) (ps : List Primitive) → (product_of n ps).halvings ≡ count ps
product_halvings n [] = refl
product_halvings n (p ∷ ps) =
    let rest : (product_of n ps).halvings ≡ count ps = product_halvings n ps in
    let here : (operator_of p).halvings ≡ count_one p = primitive_halvings p in
    omega arith

product_size : (n : ℕ) (ps : List Primitive) → (product_of n ps).size ≡ n
product_size n [] = refl
product_size n (p ∷ ps) = refl

fit_of : (n k : ℕ) (g : Operator) (ps : Primitives) (qs : List ℕ) → Follows g ps k → length qs ≡ k → AreQubits n qs → HaveQubits n (ps no_controls qs)
fit_of n k g ps qs f l q = f.fit n no_controls qs l (record { controls = tt; apart = (tt, tt); own = q })

product_entries : (n k : ℕ) (g : Operator) (ps : Primitives) (qs : List ℕ) (x y : Bits) → Follows g ps k → length qs ≡ k → AreQubits n qs → Long n x → Long n y → (product_of n (ps no_controls qs)).entries x y ≡ embedded g.entries qs x y
product_entries n k g ps qs x y f l q i j =
    sym (apply_only n (product_of n (ps no_controls qs)).entries x y j)
    ∙ product_runs n (ps no_controls qs) (only y) x (fit_of n k g ps qs f l q) i
    ∙ (f.does n no_controls qs l q (tt, tt)).forth.by (only y) x i
    ∙ sym (embedded_acts_at n g.entries qs (only y) x q i)
    ∙ apply_only n (embedded g.entries qs) x y j

pub primitives_are_matrix : PrimitivesAreMatrix
primitives_are_matrix gates ms gate angles n qs call =
    let f = call_follows_matrix gates call.gates_fit ms gate angles in
    record {
      size = product_size n _;
      halvings = product_halvings n _ ∙ f.counted no_controls qs;
      entries = λ x y i j. product_entries n _ _ _ qs x y f call.count call.different (long_of n x (i ∙ product_size n _)) (long_of n y (j ∙ product_size n _));
    }

-- ---- qubits

among_first : (q : ℕ) (qs : List ℕ) → is_among q (q ∷ qs) ≡ true
among_first q qs = ap (λ t. t || is_among q qs) (eq-eqb q q refl)

or_right : (s t : Bool) → t ≡ true → (s || t) ≡ true
or_right true t e = refl
or_right false t e = e

all_among : (qs more : List ℕ) → ((q : ℕ) → is_among q qs ≡ true → is_among q more ≡ true) → All (λ q. is_among q more ≡ true) qs
all_among [] more h = all_none (λ q. is_among q more ≡ true)
all_among (q ∷ qs) more h =
    all_more (λ q. is_among q more ≡ true) q qs (h q (among_first q qs)) (all_among qs more (λ r e. h r (or_right (nat_eq r q) (is_among r qs) e)))

pub primitives_have_their_qubits : PrimitivesHaveTheirQubits
primitives_have_their_qubits gates ms gate angles n qs call =
    let f = call_follows_matrix gates call.gates_fit ms gate angles in
    let Q : ℕ → Type 0 = λ q. is_among q qs ≡ true in
    (fit_of n _ _ _ qs f call.count call.different, f.members (λ q. is_among q qs) no_controls qs call.count (all_none Q) (all_none Q) (all_among qs qs (λ q e. e)))
