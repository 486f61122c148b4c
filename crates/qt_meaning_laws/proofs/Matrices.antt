-- Matrices on k qubits whose rows are orthogonal and weigh 4^h each: the identity, products, controls and embeddings keep this, and so do adjoints
-- where the columns are such too.
use Rattle.std.proofs.Common.{◌≡◌, ℕ, zero, suc, ◌+◌, Bool, true, false, ◌&&◌, ◌||◌, List, [], ◌∷◌, length, refl, sym, ap, subst, ◌∙◌, arith}
use Rattle.qt_ring.specs.declared.omega.Omega.{Omega}
use Rattle.qt_ring.specs.Ring.{nil, one, times, conj, two_to}
use Rattle.qt_ring.specs.Places.{Bits, get, equal_bits, chosen, agree_outside, AreQubits}
use Rattle.qt_ring.specs.Matrix.{Matrix, kept, same, sum, product, adjoint, identity, ctrl, negctrl, embedded}
use Rattle.qt_ring.proofs.RingLaws.{times_comm, times_assoc, times_front, plus-times, plus-nil, nil-plus, nil-times, times-nil, one-times, times-one, conj_plus, conj_times, conj_conj, conj-nil, conj-one, plus_both}
use Rattle.qt_ring.proofs.Bits.{Long, same_sym}
use Rattle.qt_ring.proofs.Sums.{Vector, sum_ext, sum-nil, sum-times, times-sum, sum_swap, sum_pick, kept-times, act}
use Rattle.qt_ring.proofs.Acts.{Same, act_ext, act_same, act_product, act_identity}
use Rattle.qt_ring.proofs.Products.{embedded_acts_at}

-- ---- numbers

pub two_to-plus : (h k : ℕ) → times (two_to h) (two_to k) ≡ two_to (h + k)
two_to-plus zero k = let z : k ≡ 0 + k = omega arith in one-times (two_to k) ∙ ap two_to z
two_to-plus (suc h) k =
    let s : suc (h + k) ≡ suc h + k = omega arith in
    plus-times (two_to h) (two_to h) (two_to k) ∙ plus_both _ _ _ _ (two_to-plus h k) (two_to-plus h k) ∙ ap two_to s

pub conj-two_to : (h : ℕ) → conj (two_to h) ≡ two_to h
conj-two_to zero = conj-one
conj-two_to (suc h) = conj_plus (two_to h) (two_to h) ∙ plus_both _ _ _ _ (conj-two_to h) (conj-two_to h)

pub conj-kept : (t : Bool) (a : Omega) → conj (kept t a) ≡ kept t (conj a)
conj-kept true a = refl
conj-kept false a = conj-nil

times-kept : (t : Bool) (a b : Omega) → times a (kept t b) ≡ kept t (times a b)
times-kept true a b = refl
times-kept false a b = times-nil a

pub conj-sum : (n : ℕ) (f : Bits → Omega) → conj (sum n f) ≡ sum n (λ x. conj (f x))
conj-sum zero f = refl
conj-sum (suc n) f = conj_plus _ _ ∙ plus_both _ _ _ _ (conj-sum n (λ x. f (false ∷ x))) (conj-sum n (λ x. f (true ∷ x)))

no_terms : (k : ℕ) (f : Bits → Omega) → ((z : Bits) → f z ≡ nil) → sum k f ≡ nil
no_terms k f h = sum_ext k f (λ z. nil) (λ z l. h z) ∙ sum-nil k

-- ---- a matrix times a vector

abbrev pub apply : ℕ → Matrix → Vector → Vector
apply k m v x = sum k (λ z. times (m x z) (v z))

pub apply_ext : (k : ℕ) (m : Matrix) (v w : Vector) (x : Bits) → ((z : Bits) → Long k z → v z ≡ w z) → apply k m v x ≡ apply k m w x
apply_ext k m v w x h = sum_ext k _ _ (λ z l. ap (times (m x z)) (h z l))

pub apply_same : (k : ℕ) (a b : Matrix) (v : Vector) (x : Bits) → Same k a b → Long k x → apply k a v x ≡ apply k b v x
apply_same k a b v x h l = sum_ext k _ _ (λ z j. ap (λ t. times t (v z)) (h x z l j))

apply_product : (k : ℕ) (a b : Matrix) (v : Vector) (x : Bits) → apply k (product k a b) v x ≡ apply k a (apply k b v) x
apply_product k a b v x =
    sum_ext k _ _ (λ z l. sum-times k (v z) (λ u. times (a x u) (b u z)))
    ∙ sum_swap k k (λ z u. times (times (a x u) (b u z)) (v z))
    ∙ sum_ext k _ _ (λ u l. sum_ext k _ _ (λ z j. times_assoc (a x u) (b u z) (v z)) ∙ sym (times-sum k (a x u) (λ z. times (b u z) (v z))))

apply_identity : (k h : ℕ) (v : Vector) (x : Bits) → Long k x → apply k (identity h) v x ≡ times (two_to h) (v x)
apply_identity k h v x l =
    sum_ext k _ _ (λ z j. kept-times (same x z) (two_to h) (v z)) ∙ sum_pick k x (λ z. times (two_to h) (v z)) l

apply_times : (k : ℕ) (m : Matrix) (c : Omega) (v : Vector) (x : Bits) → apply k m (λ z. times c (v z)) x ≡ times c (apply k m v x)
apply_times k m c v x = sum_ext k _ _ (λ z l. times_front (m x z) c (v z)) ∙ sym (times-sum k c (λ z. times (m x z) (v z)))

-- ---- adjoints

pub adjoint_adjoint : (k : ℕ) (m : Matrix) → Same k m (adjoint (adjoint m))
adjoint_adjoint k m x y l j = sym (conj_conj (m x y))

pub adjoint_identity : (k h : ℕ) → Same k (identity h) (adjoint (identity h))
adjoint_identity k h x y l j =
    sym (conj-kept (same y x) (two_to h) ∙ ap (kept (same y x)) (conj-two_to h) ∙ ap (λ t. kept t (two_to h)) (same_sym y x))

pub adjoint_product : (k n : ℕ) (a b : Matrix) → Same n (product k (adjoint b) (adjoint a)) (adjoint (product k a b))
adjoint_product k n a b x y l j =
    sym (conj-sum k (λ z. times (a y z) (b z x)) ∙ sum_ext k _ _ (λ z i. conj_times (a y z) (b z x) ∙ times_comm (conj (a y z)) (conj (b z x))))

equal_bits_sym : (a b : Bool) → equal_bits a b ≡ equal_bits b a
equal_bits_sym true true = refl
equal_bits_sym false false = refl
equal_bits_sym true false = refl
equal_bits_sym false true = refl

agree_sym : (p : ℕ) (qs : List ℕ) (x y : Bits) → agree_outside p qs x y ≡ agree_outside p qs y x
agree_sym p qs [] [] = refl
agree_sym p qs [] (b ∷ y) = refl
agree_sym p qs (a ∷ x) [] = refl
agree_sym p qs (a ∷ x) (b ∷ y) =
    ap (λ t. (chosen p qs || t) && agree_outside (suc p) qs x y) (equal_bits_sym a b)
    ∙ ap (λ t. (chosen p qs || equal_bits b a) && t) (agree_sym (suc p) qs x y)

pub adjoint_embedded : (n : ℕ) (m : Matrix) (qs : List ℕ) → Same n (embedded (adjoint m) qs) (adjoint (embedded m qs))
adjoint_embedded n m qs x y l j =
    sym (conj-kept (agree_outside 0 qs y x) (m (get qs y) (get qs x)) ∙ ap (λ t. kept t (conj (m (get qs y) (get qs x)))) (agree_sym 0 qs y x))

-- ---- orthogonal rows

-- a matrix times its adjoint is 4^h
pub record HasRows (k h : ℕ) (m : Matrix) : Type 0 where
  pub by : (x y : Bits) → Long k x → Long k y → product k m (adjoint m) x y ≡ identity (h + h) x y

pub same_rows : (k h : ℕ) (a b : Matrix) → Same k a b → HasRows k h a → HasRows k h b
same_rows k h a b s r = record {
  by = λ x y l j.
      sym (sum_ext k _ _ (λ z i. ap (λ t. times t (conj (a y z))) (s x z l i) ∙ ap (λ t. times (b x z) (conj t)) (s y z j i))) ∙ r.by x y l j;
}

-- on vectors
unapply : (k h : ℕ) (m : Matrix) (v : Vector) (x : Bits) → HasRows k h m → Long k x → apply k m (apply k (adjoint m) v) x ≡ times (two_to (h + h)) (v x)
unapply k h m v x r l =
    sym (apply_product k m (adjoint m) v x) ∙ apply_same k (product k m (adjoint m)) (identity (h + h)) v x r.by l ∙ apply_identity k (h + h) v x l

pub identity_rows : (k h : ℕ) → HasRows k h (identity h)
identity_rows k h = record {
  by = λ x y l j.
      apply_identity k h (λ z. adjoint (identity h) z y) x l
      ∙ ap (times (two_to h)) (sym (adjoint_identity k h x y l j))
      ∙ times-kept (same x y) (two_to h) (two_to h)
      ∙ ap (kept (same x y)) (two_to-plus h h);
}

pub product_rows : (k g h : ℕ) (a b : Matrix) → HasRows k g a → HasRows k h b → HasRows k (g + h) (product k a b)
product_rows k g h a b ra rb = record {
  by = λ x y l j.
      let e : (h + h) + (g + g) ≡ (g + h) + (g + h) = omega arith in
      apply_product k a b (λ z. adjoint (product k a b) z y) x
      ∙ apply_ext k a _ (λ z. times (two_to (h + h)) (adjoint a z y)) x (λ u i.
      apply_ext k b _ (apply k (adjoint b) (λ z. adjoint a z y)) u (λ z o. sym (adjoint_product k k a b z y o j))
      ∙ unapply k h b (λ z. adjoint a z y) u rb i)
      ∙ apply_times k a (two_to (h + h)) (λ z. adjoint a z y) x
      ∙ ap (times (two_to (h + h))) (ra.by x y l j)
      ∙ times-kept (same x y) (two_to (h + h)) (two_to (g + g))
      ∙ ap (kept (same x y)) (two_to-plus (h + h) (g + g) ∙ ap two_to e);
}

-- ---- one more qubit in front, with a matrix where it is 0 and a matrix where it is 1

abbrev blocks : Matrix → Matrix → Matrix
blocks a b (false ∷ x) (false ∷ y) = a x y
blocks a b (true ∷ x) (true ∷ y) = b x y
blocks a b _ _ = nil

nil_left : (k : ℕ) (f : Bits → Omega) → sum k (λ z. times nil (f z)) ≡ nil
nil_left k f = no_terms k _ (λ z. nil-times (f z))

nil_right : (k : ℕ) (f : Bits → Omega) → sum k (λ z. times (f z) (conj nil)) ≡ nil
nil_right k f = no_terms k _ (λ z. ap (times (f z)) conj-nil ∙ times-nil (f z))

blocks_rows : (k h : ℕ) (a b : Matrix) → HasRows k h a → HasRows k h b → HasRows (suc k) h (blocks a b)
blocks_rows k h a b ra rb = record { by = go }
  where
    go : (x y : Bits) → Long (suc k) x → Long (suc k) y → product (suc k) (blocks a b) (adjoint (blocks a b)) x y ≡ identity (h + h) x y
    go [] y l j = absurd l
    go (s ∷ x) [] l j = absurd j
    go (false ∷ x) (false ∷ y) l j = plus_both _ _ _ _ (ra.by x y l j) (nil_left k (λ z. conj nil)) ∙ plus-nil _
    go (true ∷ x) (true ∷ y) l j = plus_both _ _ _ _ (nil_left k (λ z. conj nil)) (rb.by x y l j) ∙ nil-plus _
    go (false ∷ x) (true ∷ y) l j = plus_both _ _ _ _ (nil_right k (a x)) (nil_left k (λ z. conj (b y z))) ∙ plus-nil nil
    go (true ∷ x) (false ∷ y) l j = plus_both _ _ _ _ (nil_left k (λ z. conj (a y z))) (nil_right k (b x)) ∙ plus-nil nil

adjoint_blocks : (k : ℕ) (a b : Matrix) → Same (suc k) (blocks (adjoint a) (adjoint b)) (adjoint (blocks a b))
adjoint_blocks k a b [] y l j = absurd l
adjoint_blocks k a b (s ∷ x) [] l j = absurd j
adjoint_blocks k a b (false ∷ x) (false ∷ y) l j = refl
adjoint_blocks k a b (true ∷ x) (true ∷ y) l j = refl
adjoint_blocks k a b (false ∷ x) (true ∷ y) l j = sym conj-nil
adjoint_blocks k a b (true ∷ x) (false ∷ y) l j = sym conj-nil

ctrl_is : (k h : ℕ) (m : Matrix) → Same (suc k) (blocks (identity h) m) (ctrl h m)
ctrl_is k h m [] y l j = absurd l
ctrl_is k h m (s ∷ x) [] l j = absurd j
ctrl_is k h m (false ∷ x) (false ∷ y) l j = refl
ctrl_is k h m (true ∷ x) (true ∷ y) l j = refl
ctrl_is k h m (false ∷ x) (true ∷ y) l j = refl
ctrl_is k h m (true ∷ x) (false ∷ y) l j = refl

negctrl_is : (k h : ℕ) (m : Matrix) → Same (suc k) (blocks m (identity h)) (negctrl h m)
negctrl_is k h m [] y l j = absurd l
negctrl_is k h m (s ∷ x) [] l j = absurd j
negctrl_is k h m (false ∷ x) (false ∷ y) l j = refl
negctrl_is k h m (true ∷ x) (true ∷ y) l j = refl
negctrl_is k h m (false ∷ x) (true ∷ y) l j = refl
negctrl_is k h m (true ∷ x) (false ∷ y) l j = refl

-- ---- on chosen qubits

-- the vector that is 1 at one place
abbrev only : Bits → Vector
only y z = kept (same z y) one

apply_only : (k : ℕ) (m : Matrix) (x y : Bits) → Long k y → apply k m (only y) x ≡ m x y
apply_only k m x y l =
    sum_ext k _ _ (λ z j. times-kept (same z y) (m x z) one ∙ ap (kept (same z y)) (times-one (m x z)) ∙ ap (λ t. kept t (m x z)) (same_sym z y))
    ∙ sum_pick k y (m x) l

pub embedded_rows : (n h : ℕ) (m : Matrix) (qs : List ℕ) → AreQubits n qs → HasRows (length qs) h m → HasRows n h (embedded m qs)
embedded_rows n h m qs f r = record {
  by = λ x y l j.
      embedded_acts_at n m qs (λ z. adjoint (embedded m qs) z y) x f l
      ∙ act_ext n m qs _ (act (adjoint m) qs (only y)) x l (λ z i.
      sym (adjoint_embedded n m qs z y i j)
      ∙ sym (apply_only n (embedded (adjoint m) qs) z y j)
      ∙ embedded_acts_at n (adjoint m) qs (only y) z f i)
      ∙ sym (act_product n m (adjoint m) qs (only y) x f l)
      ∙ act_same (product (length qs) m (adjoint m)) (identity (h + h)) qs (only y) x r.by
      ∙ act_identity n (h + h) qs (only y) x
      ∙ times-kept (same x y) (two_to (h + h)) one
      ∙ ap (kept (same x y)) (times-one (two_to (h + h)));
}

-- ---- rows and columns

-- the rows and the columns of a matrix are orthogonal and weigh 4^h each
pub record IsUnitaryMatrix (k h : ℕ) (m : Matrix) : Type 0 where
  pub rows : HasRows k h m
  pub columns : HasRows k h (adjoint m)

pub identity_unitary : (k h : ℕ) → IsUnitaryMatrix k h (identity h)
identity_unitary k h = record { rows = identity_rows k h; columns = same_rows k h _ _ (adjoint_identity k h) (identity_rows k h) }

pub adjoint_unitary : (k h : ℕ) (m : Matrix) → IsUnitaryMatrix k h m → IsUnitaryMatrix k h (adjoint m)
adjoint_unitary k h m t = record { rows = t.columns; columns = same_rows k h m _ (adjoint_adjoint k m) t.rows }

pub product_unitary : (k g h : ℕ) (a b : Matrix) → IsUnitaryMatrix k g a → IsUnitaryMatrix k h b → IsUnitaryMatrix k (g + h) (product k a b)
product_unitary k g h a b s t =
    let e : h + g ≡ g + h = omega arith in
    record {
      rows = product_rows k g h a b s.rows t.rows;
      columns = same_rows k (g + h) _ _ (adjoint_product k k a b) (subst (λ i. HasRows k i (product k (adjoint b) (adjoint a))) e (product_rows k h g (adjoint b) (adjoint a) t.columns s.columns));
    }

blocks_unitary : (k h : ℕ) (a b : Matrix) → IsUnitaryMatrix k h a → IsUnitaryMatrix k h b → IsUnitaryMatrix (suc k) h (blocks a b)
blocks_unitary k h a b s t = record {
  rows = blocks_rows k h a b s.rows t.rows;
  columns = same_rows (suc k) h _ _ (adjoint_blocks k a b) (blocks_rows k h (adjoint a) (adjoint b) s.columns t.columns);
}

same_unitary : (k h : ℕ) (a b : Matrix) → Same k a b → IsUnitaryMatrix k h a → IsUnitaryMatrix k h b
same_unitary k h a b s t = record { rows = same_rows k h a b s t.rows; columns = same_rows k h _ _ (λ x y l j. ap conj (s y x j l)) t.columns }

pub ctrl_unitary : (k h : ℕ) (m : Matrix) → IsUnitaryMatrix k h m → IsUnitaryMatrix (suc k) h (ctrl h m)
ctrl_unitary k h m t = same_unitary (suc k) h _ _ (ctrl_is k h m) (blocks_unitary k h (identity h) m (identity_unitary k h) t)

pub negctrl_unitary : (k h : ℕ) (m : Matrix) → IsUnitaryMatrix k h m → IsUnitaryMatrix (suc k) h (negctrl h m)
negctrl_unitary k h m t = same_unitary (suc k) h _ _ (negctrl_is k h m) (blocks_unitary k h m (identity h) t (identity_unitary k h))

pub embedded_unitary : (n h : ℕ) (m : Matrix) (qs : List ℕ) → AreQubits n qs → IsUnitaryMatrix (length qs) h m → IsUnitaryMatrix n h (embedded m qs)
embedded_unitary n h m qs f t = record {
  rows = embedded_rows n h m qs f t.rows;
  columns = same_rows n h _ _ (adjoint_embedded n m qs) (embedded_rows n h (adjoint m) qs f t.columns);
}
