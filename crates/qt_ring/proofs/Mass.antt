-- The sum of |.|² over all basis states: what keeps it, what splits it; and the totals of a list of entries, its two parts.
use Rattle.std.proofs.Common.{◌≡◌, ◌≢◌, ℕ, zero, suc, ◌<◌, Bool, true, false, [], ◌∷◌, refl, sym, ap, ◌∙◌, arith}
use Rattle.qt_ring.specs.declared.omega.Omega.{Omega}
use Rattle.qt_ring.specs.Ring.{nil, plus, times, conj}
use Rattle.qt_ring.specs.Places.{Bits, at, equal_bits}
use Rattle.qt_ring.specs.Matrix.{Matrix, kept, sum}
use Rattle.qt_ring.proofs.RingLaws.{plus_comm, plus-nil, nil-times, times-nil, times-plus, plus-times, conj_plus, conj_times, plus_both, plus_cross, times_cross}
use Rattle.qt_ring.proofs.Bits.{Long, put, put_at, put_put_same, at_put_same, at_put_other}
use Rattle.qt_ring.proofs.Sums.{Vector, sum_ext, sum-plus, times-sum, sum_halves, act}
use Rattle.qt_ring.proofs.Acts.{choose}

-- |a|²
abbrev pub norm : Omega → Omega
norm a = times a (conj a)

abbrev pub mass : ℕ → Vector → Omega
mass n v = sum n (λ x. norm (v x))

pub norm-times : (a b : Omega) → norm (times a b) ≡ times (norm a) (norm b)
norm-times a b = ap (times (times a b)) (conj_times a b) ∙ times_cross a b (conj a) (conj b)

pub norm-plus : (x y : Omega) → norm (plus x y) ≡ plus (plus (norm x) (norm y)) (plus (times x (conj y)) (times y (conj x)))
norm-plus x y =
    ap (times (plus x y)) (conj_plus x y) ∙ plus-times x y (plus (conj x) (conj y))
    ∙ plus_both _ _ _ _ (times-plus x (conj x) (conj y)) (times-plus y (conj x) (conj y) ∙ plus_comm (times y (conj x)) (times y (conj y)))
    ∙ plus_cross (norm x) (times x (conj y)) (norm y) (times y (conj x))

pub mixed : (a b p q : Omega) → times (times a p) (conj (times b q)) ≡ times (times a (conj b)) (times p (conj q))
mixed a b p q = ap (times (times a p)) (conj_times b q) ∙ times_cross a p (conj b) (conj q)

norm_row : (a b p q : Omega) → norm (plus (times a p) (times b q)) ≡ plus (plus (times (norm a) (norm p)) (times (norm b) (norm q))) (plus (times (times a (conj b)) (times p (conj q))) (times (times b (conj a)) (times q (conj p))))
norm_row a b p q =
    norm-plus (times a p) (times b q)
    ∙ plus_both _ _ _ _ (plus_both _ _ _ _ (norm-times a p) (norm-times b q)) (plus_both _ _ _ _ (mixed a b p q) (mixed b a q p))

collected : (a c x e : Omega) → plus a c ≡ e → plus (times a x) (times c x) ≡ times e x
collected a c x e h = sym (plus-times a c x) ∙ ap (λ t. times t x) h

-- a matrix whose columns are orthogonal and weigh k each
pub two_rows : (a b c d k p q : Omega) → plus (norm a) (norm c) ≡ k → plus (norm b) (norm d) ≡ k → plus (times a (conj b)) (times c (conj d)) ≡ nil → plus (times b (conj a)) (times d (conj c)) ≡ nil → plus (norm (plus (times a p) (times b q))) (norm (plus (times c p) (times d q))) ≡ times k (plus (norm p) (norm q))
two_rows a b c d k p q e f g h =
    plus_both _ _ _ _ (norm_row a b p q) (norm_row c d p q)
    ∙ plus_cross _ _ _ _
    ∙ plus_both _ _ _ _
    (plus_cross _ _ _ _ ∙ plus_both _ _ _ _ (collected (norm a) (norm c) (norm p) k e) (collected (norm b) (norm d) (norm q) k f) ∙ sym (times-plus k (norm p) (norm q)))
    (plus_cross _ _ _ _ ∙ plus_both _ _ _ _ (collected _ _ (times p (conj q)) nil g ∙ nil-times _) (collected _ _ (times q (conj p)) nil h ∙ nil-times _) ∙ plus-nil nil)
    ∙ plus-nil _

-- ---- the basis states in pairs
shift : (n q : ℕ) (f : Bits → Omega) → q < n → sum n (λ y. kept (equal_bits true (at q y)) (f y)) ≡ sum n (λ y. kept (equal_bits false (at q y)) (f (put q true y)))
shift zero q f h = absurd (omega arith)
shift (suc n) zero f h = plus_comm _ _
shift (suc n) (suc q) f h = plus_both _ _ _ _ (shift n q (λ y. f (false ∷ y)) (omega arith)) (shift n q (λ y. f (true ∷ y)) (omega arith))

kept-plus : (t : Bool) (a b : Omega) → plus (kept t a) (kept t b) ≡ kept t (plus a b)
kept-plus true a b = refl
kept-plus false a b = plus-nil nil

pub sum_pairs : (n q : ℕ) (f : Bits → Omega) → q < n → sum n f ≡ sum n (λ y. kept (equal_bits false (at q y)) (plus (f y) (f (put q true y))))
sum_pairs n q f h =
    sum_halves n q f ∙ ap (plus (sum n (λ y. kept (equal_bits false (at q y)) (f y)))) (shift n q f h)
    ∙ sym (sum-plus n (λ y. kept (equal_bits false (at q y)) (f y)) (λ y. kept (equal_bits false (at q y)) (f (put q true y))))
    ∙ sum_ext n _ _ (λ y l. kept-plus (equal_bits false (at q y)) (f y) (f (put q true y)))

kept_by : (t : Bool) (a b k : Omega) → (t ≡ true → a ≡ times k b) → kept t a ≡ times k (kept t b)
kept_by true a b k h = h refl
kept_by false a b k h = sym (times-nil k)

is_false : (b : Bool) → equal_bits false b ≡ true → b ≡ false
is_false true e = absurd (cc)
is_false false e = refl

-- a map that weighs k times as much on each pair weighs so on all
pub pairs_keep : (n q : ℕ) (k : Omega) (v w : Vector) → q < n → ((y : Bits) → Long n y → at q y ≡ false → plus (norm (w y)) (norm (w (put q true y))) ≡ times k (plus (norm (v y)) (norm (v (put q true y))))) → mass n w ≡ times k (mass n v)
pairs_keep n q k v w h e =
    sum_pairs n q (λ y. norm (w y)) h
    ∙ sum_ext n _ _ (λ y l. kept_by (equal_bits false (at q y)) _ _ k (λ t. e y l (is_false (at q y) t)))
    ∙ sym (times-sum n k (λ y. kept (equal_bits false (at q y)) (plus (norm (v y)) (norm (v (put q true y))))))
    ∙ ap (times k) (sym (sum_pairs n q (λ y. norm (v y)) h))

-- ---- a matrix on one qubit whose columns are orthogonal and weigh k each
pub record Weighs (k : Omega) (m : Matrix) : Type 0 where
  pub left : plus (norm (m (false ∷ []) (false ∷ []))) (norm (m (true ∷ []) (false ∷ []))) ≡ k
  pub right : plus (norm (m (false ∷ []) (true ∷ []))) (norm (m (true ∷ []) (true ∷ []))) ≡ k
  pub across : plus (times (m (false ∷ []) (false ∷ [])) (conj (m (false ∷ []) (true ∷ [])))) (times (m (true ∷ []) (false ∷ [])) (conj (m (true ∷ []) (true ∷ [])))) ≡ nil
  pub back : plus (times (m (false ∷ []) (true ∷ [])) (conj (m (false ∷ []) (false ∷ [])))) (times (m (true ∷ []) (true ∷ [])) (conj (m (true ∷ []) (false ∷ [])))) ≡ nil

low_row : (m : Matrix) (q : ℕ) (v : Vector) (y : Bits) → at q y ≡ false → act m (q ∷ []) v y ≡ plus (times (m (false ∷ []) (false ∷ [])) (v y)) (times (m (false ∷ []) (true ∷ [])) (v (put q true y)))
low_row m q v y e =
    ap (λ t. plus (times (m (t ∷ []) (false ∷ [])) (v (put q false y))) (times (m (t ∷ []) (true ∷ [])) (v (put q true y)))) e
    ∙ ap (λ y'. plus (times (m (false ∷ []) (false ∷ [])) (v y')) (times (m (false ∷ []) (true ∷ [])) (v (put q true y)))) (ap (λ t. put q t y) (sym e) ∙ put_at q y)

high_row : (n : ℕ) (m : Matrix) (q : ℕ) (v : Vector) (y : Bits) → q < n → Long n y → at q y ≡ false → act m (q ∷ []) v (put q true y) ≡ plus (times (m (true ∷ []) (false ∷ [])) (v y)) (times (m (true ∷ []) (true ∷ [])) (v (put q true y)))
high_row n m q v y h l e =
    ap (λ t. plus (times (m (t ∷ []) (false ∷ [])) (v (put q false (put q true y)))) (times (m (t ∷ []) (true ∷ [])) (v (put q true (put q true y))))) (at_put_same n q true y h l)
    ∙ plus_both _ _ _ _
    (ap (λ y'. times (m (true ∷ []) (false ∷ [])) (v y')) (put_put_same q false true y ∙ ap (λ t. put q t y) (sym e) ∙ put_at q y))
    (ap (λ y'. times (m (true ∷ []) (true ∷ [])) (v y')) (put_put_same q true true y))

pair_keeps : (n q : ℕ) (k : Omega) (m : Matrix) (v : Vector) (y : Bits) → Weighs k m → q < n → Long n y → at q y ≡ false → plus (norm (act m (q ∷ []) v y)) (norm (act m (q ∷ []) v (put q true y))) ≡ times k (plus (norm (v y)) (norm (v (put q true y))))
pair_keeps n q k m v y w h l e =
    plus_both _ _ _ _ (ap norm (low_row m q v y e)) (ap norm (high_row n m q v y h l e))
    ∙ two_rows (m (false ∷ []) (false ∷ [])) (m (false ∷ []) (true ∷ [])) (m (true ∷ []) (false ∷ [])) (m (true ∷ []) (true ∷ [])) k (v y) (v (put q true y)) w.left w.right w.across w.back

pub one_keeps : (n q : ℕ) (k : Omega) (m : Matrix) (v : Vector) → Weighs k m → q < n → mass n (act m (q ∷ []) v) ≡ times k (mass n v)
one_keeps n q k m v w h = pairs_keep n q k v (act m (q ∷ []) v) h (λ y l e. pair_keeps n q k m v y w h l e)

-- the same under a control
control_by : (n q : ℕ) (k d : Omega) (m : Matrix) (v : Vector) (y : Bits) (s t : Bool) → Weighs k m → norm d ≡ k → q < n → Long n y → at q y ≡ false → s ≡ t → plus (norm (choose s (act m (q ∷ []) v y) (times d (v y)))) (norm (choose t (act m (q ∷ []) v (put q true y)) (times d (v (put q true y))))) ≡ times k (plus (norm (v y)) (norm (v (put q true y))))
control_by n q k d m v y true true w f h l e s = pair_keeps n q k m v y w h l e
control_by n q k d m v y false false w f h l e s =
    plus_both _ _ _ _ (norm-times d (v y) ∙ ap (λ t. times t (norm (v y))) f) (norm-times d (v (put q true y)) ∙ ap (λ t. times t (norm (v (put q true y)))) f)
    ∙ sym (times-plus k (norm (v y)) (norm (v (put q true y))))
control_by n q k d m v y true false w f h l e s = absurd (cc)
control_by n q k d m v y false true w f h l e s = absurd (cc)

pub control_keeps : (n c q : ℕ) (k d : Omega) (m : Matrix) (v : Vector) → Weighs k m → norm d ≡ k → q < n → c ≢ q → mass n (λ x. choose (at c x) (act m (q ∷ []) v x) (times d (v x))) ≡ times k (mass n v)
control_keeps n c q k d m v w f h g =
    pairs_keep n q k v (λ x. choose (at c x) (act m (q ∷ []) v x) (times d (v x))) h (λ y l e. control_by n q k d m v y (at c y) (at c (put q true y)) w f h l e (sym (at_put_other c q true y g)))

-- ---- projections
norm-kept : (t : Bool) (a : Omega) → norm (kept t a) ≡ kept t (norm a)
norm-kept true a = refl
norm-kept false a = nil-times _

pub project_splits : (n q : ℕ) (v : Vector) → plus (mass n (λ x. kept (equal_bits false (at q x)) (v x))) (mass n (λ x. kept (equal_bits true (at q x)) (v x))) ≡ mass n v
project_splits n q v =
    plus_both _ _ _ _ (sum_ext n _ _ (λ y l. norm-kept (equal_bits false (at q y)) (v y))) (sum_ext n _ _ (λ y l. norm-kept (equal_bits true (at q y)) (v y)))
    ∙ sym (sum_halves n q (λ y. norm (v y)))
