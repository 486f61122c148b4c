-- U and gphase are unitary. The columns of U are orthogonal and weigh 4 each; so are its rows, since its transpose is such a
-- matrix again.
use Rattle.std.proofs.Common.{◌≡◌, ℕ, zero, suc, true, false, [], ◌∷◌, length, refl, sym, ap, ◌∙◌, arith}
use Rattle.std.proofs.lemmas.Int.{ints}
use Rattle.qt_ring.specs.declared.omega.Omega.{Omega}
use Rattle.qt_ring.specs.Ring.{nil, one, the_omega, imaginary, plus, minus, times, conj, root, two_to}
use Rattle.qt_ring.specs.Places.{Bits}
use Rattle.qt_ring.specs.Matrix.{Matrix, product, adjoint, identity, twice_u, u_gate, phase_gate, IsUnitary}
use Rattle.qt_ring.proofs.RingLaws.{same, plus_comm, times_comm, times_assoc, times_cross, times-nil, one-times, times-one, times-plus, plus_both, conj_conj, conj_plus, conj_times, conj-one, conj-minus, conj-imaginary, conj-nil, minus_minus, times-minus, minus-times}
use Rattle.qt_ring.proofs.Mass.{norm, norm-times, norm-plus, mixed, Weighs}

-- ---- numbers of size 1
root_one : norm one ≡ one
unfolding times conj one
root_one = refl

omega_one : norm the_omega ≡ one
unfolding times conj one the_omega
omega_one = refl

imaginary_one : norm imaginary ≡ one
unfolding times conj one imaginary
imaginary_one = refl

product_one : (a b : Omega) → norm a ≡ one → norm b ≡ one → norm (times a b) ≡ one
product_one a b e f = norm-times a b ∙ ap (λ t. times t (norm b)) e ∙ one-times (norm b) ∙ f

minus_one : (a : Omega) → norm a ≡ one → norm (minus a) ≡ one
minus_one a e = ap (times (minus a)) (conj-minus a) ∙ times-minus (minus a) (conj a) ∙ ap minus (minus-times a (conj a)) ∙ minus_minus (norm a) ∙ e

pub root_size : (n : ℕ) → norm (root n) ≡ one
root_size zero = root_one
root_size (suc n) = product_one the_omega (root n) omega_one (root_size n)

-- ---- 1 + a and 1 − a
abbrev less : Omega → Omega
less a = plus one (minus a)

norm_sum : (a : Omega) → norm a ≡ one → norm (plus one a) ≡ plus (plus one one) (plus (conj a) a)
norm_sum a e =
    norm-plus one a
    ∙ plus_both _ _ _ _ (plus_both _ _ _ _ root_one e) (plus_both _ _ _ _ (one-times (conj a)) (ap (times a) conj-one ∙ times-one a))

norm_difference : (a : Omega) → norm a ≡ one → norm (less a) ≡ plus (plus one one) (plus (minus (conj a)) (minus a))
norm_difference a e = norm_sum (minus a) (minus_one a e) ∙ ap (λ t. plus (plus one one) (plus t (minus a))) (conj-minus a)

opposite_pairs : (a b : Omega) → plus (plus (plus one one) (plus a b)) (plus (plus one one) (plus (minus a) (minus b))) ≡ two_to 2
unfolding plus minus one
opposite_pairs a b = same _ _ (omega (arith, ints)) (omega (arith, ints)) (omega (arith, ints)) (omega (arith, ints))

norms_four : (a : Omega) → norm a ≡ one → plus (norm (plus one a)) (norm (less a)) ≡ two_to 2
norms_four a e = plus_both _ _ _ _ (norm_sum a e) (norm_difference a e) ∙ opposite_pairs (conj a) a

-- (1 + a)·conj(1 − a) + (1 − a)·conj(1 + a) = 0, since all of |(1 + a) + (1 − a)|² = 4 is taken by the two norms
twice_one : (a : Omega) → plus (plus one a) (less a) ≡ two_to 1
unfolding plus minus one
twice_one a = same _ _ (omega (arith, ints)) (omega (arith, ints)) (omega (arith, ints)) (omega (arith, ints))

two_size : norm (two_to 1) ≡ two_to 2
unfolding plus times conj one
two_size = refl

nothing_more : (x y : Omega) → plus x y ≡ x → y ≡ nil
unfolding plus nil
nothing_more x y e =
    let e0 = ap (λ (t : Omega). t.c0) e in
    let e1 = ap (λ (t : Omega). t.c1) e in
    let e2 = ap (λ (t : Omega). t.c2) e in
    let e3 = ap (λ (t : Omega). t.c3) e in
    same _ _ (omega (arith, ints, e0)) (omega (arith, ints, e1)) (omega (arith, ints, e2)) (omega (arith, ints, e3))

crossed : (a : Omega) → norm a ≡ one → plus (times (plus one a) (conj (less a))) (times (less a) (conj (plus one a))) ≡ nil
crossed a e =
    let n = norms_four a e in
    nothing_more (two_to 2) _ (
    ap (λ t. plus t (plus (times (plus one a) (conj (less a))) (times (less a) (conj (plus one a))))) (sym n)
    ∙ sym (norm-plus (plus one a) (less a))
    ∙ ap norm (twice_one a)
    ∙ two_size)

-- ---- matrices of the form [[1 + a, j·(1 − a)], [k·(1 − a), l·(1 + a)]]
pub record IsTurning (m : Matrix) (a j k l : Omega) : Type 0 where
  pub first : m (false ∷ []) (false ∷ []) ≡ plus one a
  pub upper : m (false ∷ []) (true ∷ []) ≡ times j (less a)
  pub lower : m (true ∷ []) (false ∷ []) ≡ times k (less a)
  pub last : m (true ∷ []) (true ∷ []) ≡ times l (plus one a)
  pub size_a : norm a ≡ one
  pub size_j : norm j ≡ one
  pub size_k : norm k ≡ one
  pub size_l : norm l ≡ one
  pub balanced : conj j ≡ times k (conj l)

sized : (k p : Omega) → norm k ≡ one → norm (times k p) ≡ norm p
sized k p e = norm-times k p ∙ ap (λ t. times t (norm p)) e ∙ one-times (norm p)

flipped : (x y : Omega) → times y (conj x) ≡ conj (times x (conj y))
flipped x y = times_comm y (conj x) ∙ ap (times (conj x)) (sym (conj_conj y)) ∙ sym (conj_times x (conj y))

across_nil : (a j k l : Omega) → norm a ≡ one → conj j ≡ times k (conj l) → plus (times (plus one a) (conj (times j (less a)))) (times (times k (less a)) (conj (times l (plus one a)))) ≡ nil
across_nil a j k l e b =
    plus_both _ _ _ _
    (ap (λ t. times t (conj (times j (less a)))) (sym (one-times (plus one a))) ∙ mixed one j (plus one a) (less a) ∙ ap (λ t. times t (times (plus one a) (conj (less a)))) (one-times (conj j) ∙ b))
    (mixed k l (less a) (plus one a))
    ∙ sym (times-plus (times k (conj l)) (times (plus one a) (conj (less a))) (times (less a) (conj (plus one a))))
    ∙ ap (times (times k (conj l))) (crossed a e)
    ∙ times-nil (times k (conj l))

turning_across : (m : Matrix) (a j k l : Omega) → IsTurning m a j k l → plus (times (m (false ∷ []) (false ∷ [])) (conj (m (false ∷ []) (true ∷ [])))) (times (m (true ∷ []) (false ∷ [])) (conj (m (true ∷ []) (true ∷ [])))) ≡ nil
turning_across m a j k l t =
    plus_both _ _ _ _
    (ap (λ u. times u (conj (m (false ∷ []) (true ∷ [])))) t.first ∙ ap (λ u. times (plus one a) (conj u)) t.upper)
    (ap (λ u. times u (conj (m (true ∷ []) (true ∷ [])))) t.lower ∙ ap (λ u. times (times k (less a)) (conj u)) t.last)
    ∙ across_nil a j k l t.size_a t.balanced

pub turning_weighs : (m : Matrix) (a j k l : Omega) → IsTurning m a j k l → Weighs (two_to 2) m
turning_weighs m a j k l t =
    let across = turning_across m a j k l t in
    record {
      left = plus_both _ _ _ _ (ap norm t.first) (ap norm t.lower ∙ sized k (less a) t.size_k) ∙ norms_four a t.size_a;
      right = plus_both _ _ _ _ (ap norm t.upper ∙ sized j (less a) t.size_j) (ap norm t.last ∙ sized l (plus one a) t.size_l) ∙ plus_comm (norm (less a)) (norm (plus one a)) ∙ norms_four a t.size_a;
      across = across;
      back =
          plus_both _ _ _ _ (flipped (m (false ∷ []) (false ∷ [])) (m (false ∷ []) (true ∷ []))) (flipped (m (true ∷ []) (false ∷ [])) (m (true ∷ []) (true ∷ [])))
          ∙ sym (conj_plus _ _)
          ∙ ap conj across
          ∙ conj-nil;
    }

-- ---- 2·U and its transpose are such matrices
abbrev pub transposed : Matrix → Matrix
transposed m x y = m y x

balance : (k b c : Omega) → norm b ≡ one → times (times k b) (conj (times b c)) ≡ times k (conj c)
balance k b c e =
    ap (times (times k b)) (conj_times b c ∙ times_comm (conj b) (conj c))
    ∙ times_cross k b (conj c) (conj b)
    ∙ ap (times (times k (conj c))) e
    ∙ times-one (times k (conj c))

minus_imaginary : conj (minus imaginary) ≡ imaginary
minus_imaginary = conj-minus imaginary ∙ ap minus conj-imaginary ∙ minus_minus imaginary

pub u_turns : (a b c : Omega) → norm a ≡ one → norm b ≡ one → norm c ≡ one → IsTurning (twice_u a b c) a (times (minus imaginary) c) (times imaginary b) (times b c)
u_turns a b c d e f = record {
  first = refl;
  upper = sym (times_assoc (minus imaginary) c (less a));
  lower = sym (times_assoc imaginary b (less a));
  last = refl;
  size_a = d;
  size_j = product_one (minus imaginary) c (minus_one imaginary imaginary_one) f;
  size_k = product_one imaginary b imaginary_one e;
  size_l = product_one b c e f;
  balanced = conj_times (minus imaginary) c ∙ ap (λ t. times t (conj c)) minus_imaginary ∙ sym (balance imaginary b c e);
}

pub u_transposed_turns : (a b c : Omega) → norm a ≡ one → norm b ≡ one → norm c ≡ one → IsTurning (transposed (twice_u a b c)) a (times imaginary b) (times (minus imaginary) c) (times b c)
u_transposed_turns a b c d e f = record {
  first = refl;
  upper = sym (times_assoc imaginary b (less a));
  lower = sym (times_assoc (minus imaginary) c (less a));
  last = refl;
  size_a = d;
  size_j = product_one imaginary b imaginary_one e;
  size_k = product_one (minus imaginary) c (minus_one imaginary imaginary_one) f;
  size_l = product_one b c e f;
  balanced =
      conj_times imaginary b
      ∙ ap (λ t. times t (conj b)) conj-imaginary
      ∙ sym (balance (minus imaginary) c b f)
      ∙ ap (λ t. times (times (minus imaginary) c) (conj t)) (times_comm c b);
}

-- ---- products with the conjugate transpose
by_one_bit : (P : Bits → Type 0) → P (false ∷ []) → P (true ∷ []) → (x : Bits) → length x ≡ 1 → P x
by_one_bit P f t [] e = absurd (omega arith)
by_one_bit P f t (false ∷ []) e = f
by_one_bit P f t (true ∷ []) e = t
by_one_bit P f t (b ∷ c ∷ x) e = absurd (omega arith)

abbrev Columns : Matrix → Bits → Bits → Type 0
Columns m x y = product 1 (adjoint m) m x y ≡ identity 2 x y

abbrev Rows : Matrix → Bits → Bits → Type 0
Rows m x y = product 1 m (adjoint m) x y ≡ identity 2 x y

weighs_columns : (m : Matrix) → Weighs (two_to 2) m → (x y : Bits) → length x ≡ 1 → length y ≡ 1 → Columns m x y
weighs_columns m w x y e f =
    by_one_bit (λ x. Columns m x y)
    (by_one_bit (Columns m (false ∷ [])) (plus_both _ _ _ _ (times_comm _ _) (times_comm _ _) ∙ w.left) (plus_both _ _ _ _ (times_comm _ _) (times_comm _ _) ∙ w.back) y f)
    (by_one_bit (Columns m (true ∷ [])) (plus_both _ _ _ _ (times_comm _ _) (times_comm _ _) ∙ w.across) (plus_both _ _ _ _ (times_comm _ _) (times_comm _ _) ∙ w.right) y f)
    x e

weighs_rows : (m : Matrix) → Weighs (two_to 2) (transposed m) → (x y : Bits) → length x ≡ 1 → length y ≡ 1 → Rows m x y
weighs_rows m w x y e f =
    by_one_bit (λ x. Rows m x y)
    (by_one_bit (Rows m (false ∷ [])) w.left w.across y f)
    (by_one_bit (Rows m (true ∷ [])) w.back w.right y f)
    x e

-- the columns of U at any angles, for the sum of |.|² over a state
pub u_weighs : (theta phi lambda : ℕ) → Weighs (two_to 2) (u_gate theta phi lambda).entries
u_weighs theta phi lambda = turning_weighs _ _ _ _ _ (u_turns (root theta) (root phi) (root lambda) (root_size theta) (root_size phi) (root_size lambda))

pub u_unitary : (theta phi lambda : ℕ) → IsUnitary (u_gate theta phi lambda)
u_unitary theta phi lambda =
    let m = (u_gate theta phi lambda).entries in
    let t : Weighs (two_to 2) (transposed m) = turning_weighs _ _ _ _ _ (u_transposed_turns (root theta) (root phi) (root lambda) (root_size theta) (root_size phi) (root_size lambda)) in
    record { rows = weighs_rows m t; columns = weighs_columns m (u_weighs theta phi lambda) }

by_no_bit : (P : Bits → Type 0) → P [] → (x : Bits) → length x ≡ 0 → P x
by_no_bit P n [] e = n
by_no_bit P n (b ∷ x) e = absurd (omega arith)

pub phase_unitary : (gamma : ℕ) → IsUnitary (phase_gate gamma)
phase_unitary gamma =
    let m = (phase_gate gamma).entries in
    record {
      rows = λ x y e f. by_no_bit (λ x. product 0 m (adjoint m) x y ≡ identity 0 x y) (by_no_bit (λ y. product 0 m (adjoint m) [] y ≡ identity 0 [] y) (root_size gamma) y f) x e;
      columns = λ x y e f. by_no_bit (λ x. product 0 (adjoint m) m x y ≡ identity 0 x y) (by_no_bit (λ y. product 0 (adjoint m) m [] y ≡ identity 0 [] y) (times_comm _ _ ∙ root_size gamma) y f) x e;
    }
