-- The mass of a state: unitary gates on different qubits keep it, and so do flips.
use Rattle.std.proofs.Common.{◌≡◌, ℕ, zero, suc, ◌+◌, List, length, refl, sym, ap, subst, ◌∙◌, arith, ℤ, ◌+ℤ◌}
use Rattle.qt_ring.specs.declared.omega.Omega.{Omega}
use Rattle.qt_ring.specs.Ring.{plus, times, conj, two_to}
use Rattle.qt_ring.specs.Places.{Bits, AreQubits}
use Rattle.qt_ring.specs.Matrix.{Matrix, Operator, sum, product, adjoint, identity, embedded}
use Rattle.qt_ring.specs.State.{State, HasAllEntries, applied, flip, total_a, total_b}
use Rattle.qt_ring.proofs.RingLaws.{times_comm, times_assoc, times_front, plus-times, one-times, conj_times, conj_conj}
use Rattle.qt_ring.proofs.Bits.{Long}
use Rattle.qt_ring.proofs.Sums.{Vector, sum_ext, sum-times, times-sum, sum_swap, act}
use Rattle.qt_ring.proofs.Acts.{act_ext, act_same, act_product, act_identity}
use Rattle.qt_ring.proofs.Products.{embedded_acts_at}
use Rattle.qt_ring.proofs.Entries.{entry}
use Rattle.qt_ring.proofs.Gates.{applied_acts}
use Rattle.qt_ring.proofs.Mass.{norm}
use Rattle.qt_ring.proofs.Mass as squares
use Rattle.qt_ring.proofs.Totals.{total_mass, total_sum}
use Rattle.qt_ring.proofs.States.{flip_totals}
use Rattle.qt_root2.specs.Real.{least, lifted}
use Rattle.qt_root2.proofs.Reals.{least_lifted}
use Rattle.qt_mass.specs.Mass.{mass}
use Rattle.qt_meaning_laws.specs.Unitary.{UnitariesKeepMass, FlipsKeepMass}
use Rattle.qt_meaning_laws.proofs.Matrices.{conj-two_to, conj-sum, apply, adjoint_embedded, apply_same, IsUnitaryMatrix}
use Rattle.qt_meaning_laws.proofs.Unitary.{IsUnitaryOperator, parts_of_unitary}

-- ---- |m·v|² by the matrix's adjoint

-- the sum of |.|² over the product of a matrix on all qubits
square_of_product : (n : ℕ) (m : Matrix) (v : Vector) → sum n (λ x. norm (apply n m v x)) ≡ sum n (λ y. times (v y) (conj (apply n (adjoint m) (apply n m v) y)))
square_of_product n m v =
    let w : Vector = apply n m v in
    sum_ext n _ _ (λ x l. sum-times n (conj (w x)) (λ y. times (m x y) (v y)))
    ∙ sum_swap n n (λ x y. times (times (m x y) (v y)) (conj (w x)))
    ∙ sum_ext n _ _ (λ y l.
    sum_ext n _ _ (λ x j. ap (λ t. times t (conj (w x))) (times_comm (m x y) (v y)) ∙ times_assoc (v y) (m x y) (conj (w x)) ∙ ap (times (v y)) (turned (m x y) (w x)))
    ∙ sym (times-sum n (v y) (λ x. conj (times (conj (m x y)) (w x))))
    ∙ ap (times (v y)) (sym (conj-sum n (λ x. times (conj (m x y)) (w x)))))
  where
    turned : (a b : Omega) → times a (conj b) ≡ conj (times (conj a) b)
    turned a b = ap (λ t. times t (conj b)) (sym (conj_conj a)) ∙ sym (conj_times (conj a) b)

-- a matrix with orthogonal columns on chosen qubits
act_keeps : (n h : ℕ) (m : Matrix) (qs : List ℕ) (v : Vector) → AreQubits n qs → IsUnitaryMatrix (length qs) h m → squares.mass n (act m qs v) ≡ times (two_to (h + h)) (squares.mass n v)
act_keeps n h m qs v f t =
    let e : Matrix = embedded m qs in
    let inverse : (y : Bits) → Long n y → apply n (adjoint e) (apply n e v) y ≡ times (two_to (h + h)) (v y) = λ y l.
    sym (apply_same n _ _ (apply n e v) y (adjoint_embedded n m qs) l)
    ∙ embedded_acts_at n (adjoint m) qs (apply n e v) y f l
    ∙ act_ext n (adjoint m) qs _ (act m qs v) y l (λ z j. embedded_acts_at n m qs v z f j)
    ∙ sym (act_product n (adjoint m) m qs v y f l)
    ∙ act_same _ (identity (h + h)) qs v y (λ x z j i. back x z ∙ t.columns.by x z j i)
    ∙ act_identity n (h + h) qs v y in
    sum_ext n _ _ (λ x l. ap norm (sym (embedded_acts_at n m qs v x f l)))
    ∙ square_of_product n e v
    ∙ sum_ext n _ _ (λ y l. ap (λ t. times (v y) (conj t)) (inverse y l) ∙ ap (times (v y)) (conj_times (two_to (h + h)) (v y) ∙ ap (λ t. times t (conj (v y))) (conj-two_to (h + h))) ∙ times_front (v y) (two_to (h + h)) (conj (v y)))
    ∙ sym (times-sum n (two_to (h + h)) (λ y. norm (v y)))
  where
    back : (x z : Bits) → product (length qs) (adjoint m) m x z ≡ product (length qs) (adjoint m) (adjoint (adjoint m)) x z
    back x z = sum_ext (length qs) _ _ (λ u l. ap (times (adjoint m x u)) (sym (conj_conj (m u z))))

-- ---- over the halvings

doubled : (x : Omega) (a b : ℤ) → x.c0 ≡ a → x.c1 ≡ b → ((plus x x).c0 ≡ a +ℤ a) × ((plus x x).c1 ≡ b +ℤ b)
unfolding plus
doubled x a b e f = (ap (λ t. t +ℤ t) e, ap (λ t. t +ℤ t) f)

times_two_to : (h : ℕ) (z : Omega) → ((times (two_to h) z).c0 ≡ lifted z.c0 h) × ((times (two_to h) z).c1 ≡ lifted z.c1 h)
times_two_to zero z = (ap (λ (t : Omega). t.c0) (one-times z), ap (λ (t : Omega). t.c1) (one-times z))
times_two_to (suc h) z =
    let less = times_two_to h z in
    let twice = doubled (times (two_to h) z) (lifted z.c0 h) (lifted z.c1 h) less.0 less.1 in
    (ap (λ (t : Omega). t.c0) (plus-times (two_to h) (two_to h) z) ∙ twice.0, ap (λ (t : Omega). t.c1) (plus-times (two_to h) (two_to h) z) ∙ twice.1)

least_same : (k m : ℕ) (a b c d : ℤ) → k ≡ m → a ≡ c → b ≡ d → least k a b ≡ least m c d
least_same k m a b c d e f g = ap (λ n. least n a b) e ∙ ap (λ z. least m z b) f ∙ ap (least m c) g

pub unitary_keeps_mass : (g : Operator) (qs : List ℕ) (s : State) → IsUnitaryOperator g → length qs ≡ g.size → AreQubits s.qubits qs → HasAllEntries s → mass (applied g qs s) ≡ mass s
unfolding mass applied
unitary_keeps_mass g qs s t size f e =
    let h = g.halvings + g.halvings in
    let v : Vector = entry s.entries in
    let k : squares.mass s.qubits (act g.entries qs v) ≡ times (two_to h) (squares.mass s.qubits v) =
    act_keeps s.qubits g.halvings g.entries qs v f (subst (λ n. IsUnitaryMatrix n g.halvings g.entries) (sym size) t) in
    let new = total_sum s.qubits (act g.entries qs v) in
    let old = total_mass s.qubits s.entries e in
    let a : total_a (applied g qs s).entries ≡ lifted (total_a s.entries) h =
    ap total_a (applied_acts g qs s f e) ∙ new.0 ∙ ap (λ (z : Omega). z.c0) k ∙ (times_two_to h _).0 ∙ ap (λ z. lifted z h) (sym old.0) in
    let b : total_b (applied g qs s).entries ≡ lifted (total_b s.entries) h =
    ap total_b (applied_acts g qs s f e) ∙ new.1 ∙ ap (λ (z : Omega). z.c1) k ∙ (times_two_to h _).1 ∙ ap (λ z. lifted z h) (sym old.1) in
    least_same ((s.halvings + g.halvings) + (s.halvings + g.halvings)) (h + (s.halvings + s.halvings)) _ _ _ _ (omega arith) a b
    ∙ least_lifted h (s.halvings + s.halvings) (total_a s.entries) (total_b s.entries)

pub unitaries_keep_mass : UnitariesKeepMass
unitaries_keep_mass = λ g qs s u size f e. unitary_keeps_mass g qs s (parts_of_unitary g u) size f e

pub flips_keep_mass : FlipsKeepMass
unfolding mass flip
flips_keep_mass = λ q s e. least_same (s.halvings + s.halvings) (s.halvings + s.halvings) _ _ _ _ refl (flip_totals q s e).0 (flip_totals q s e).1
