-- The product of exact real numbers: the one least form, and with the sum of `qt_root2` the laws of a commutative semiring.
use Rattle.std.proofs.Common.{◌≡◌, ℕ, zero, suc, ◌+◌, ◌-◌, ◌<◌, Option, Some, None, refl, sym, ap, ◌∙◌, arith, ℤ, pos, ◌+ℤ◌}
use Rattle.std.proofs.lemmas.Int.{ints}
use Rattle.qt_integers.proofs.Integers.{distrib}
use Rattle.qt_root2.specs.Real.{Real, half, halved, least, lifted, zero_real, one_real, plus_real}
use Rattle.qt_root2.specs.Root2.{Root2, times_root2, one_root2}
use Rattle.qt_root2.specs.Scaling.{lifted_root2}
use Rattle.qt_root2.proofs.Reals.{
  IsLeast,
  least_is_least,
  least_lifted,
  least-zero,
  half_some,
  least_halved,
  lifted-lifted,
  lifted_swap,
  plus_real-least,
}
use Rattle.qt_root2.proofs.Ring.{same_root2, times_comm, times_assoc, one-times, lifted-times}
use Rattle.qt_reals.specs.Product.{numerator, least_of, times_real}

-- ---- the least form

-- (a + b√2) / 2^k is x with a, b and 2^k doubled so many times
record Reaches (k : ℕ) (a b : ℤ) (x : Real) : Type 0 where
  doublings : ℕ
  exponent : k ≡ doublings + x.k
  whole : a ≡ lifted x.a doublings
  root : b ≡ lifted x.b doublings

least_reaches : (k : ℕ) (a b : ℤ) → Reaches k a b (least k a b)
least_reaches zero a b = record { doublings = 0; exponent = refl; whole = refl; root = refl }
least_reaches (suc k) a b = go (least_reaches k) (half a) (half b) refl refl
  where
    stays : Reaches (suc k) a b (record { a = a; b = b; k = suc k })
    stays = record { doublings = 0; exponent = omega arith; whole = refl; root = refl }

    go : ((x y : ℤ) → Reaches k x y (least k x y)) → (o p : Option ℤ) → half a ≡ o → half b ≡ p
        → Reaches (suc k) a b (halved o p (record { a = a; b = b; k = suc k }) (least k))
    go ih (Some x) (Some y) e f =
        let r = ih x y in
        let n : suc k ≡ suc r.doublings + (least k x y).k = omega (arith, r.exponent) in
        record {
          doublings = suc r.doublings;
          exponent = n;
          whole = half_some a x e ∙ ap (λ z. z +ℤ z) r.whole;
          root = half_some b y f ∙ ap (λ z. z +ℤ z) r.root;
        }
    go ih None p e f = stays
    go ih (Some x) None e f = stays

pub least_both : (k m : ℕ) (p q : Root2) → k ≡ m → p ≡ q → least_of k p ≡ least_of m q
least_both k m p q e f = ap (λ n. least_of n p) e ∙ ap (least_of m) f

pub least_raised : (n k : ℕ) (p : Root2) → least_of (n + k) (lifted_root2 p n) ≡ least_of k p
least_raised n k p = least_lifted n k p.a p.b

-- the least form stands for the same number
pub least_same_number : (k : ℕ) (p : Root2) → (let x = least_of k p in lifted_root2 (numerator x) k ≡ lifted_root2 p x.k)
least_same_number k p =
    let x = least_of k p in
    let r = least_reaches k p.a p.b in
    same_root2 (lifted_root2 (numerator x) k) (lifted_root2 p x.k)
    (ap (lifted x.a) r.exponent ∙ sym (lifted-lifted x.a x.k r.doublings) ∙ lifted_swap x.a x.k r.doublings ∙ ap (λ z. lifted z x.k) (sym r.whole))
    (ap (lifted x.b) r.exponent ∙ sym (lifted-lifted x.b x.k r.doublings) ∙ lifted_swap x.b x.k r.doublings ∙ ap (λ z. lifted z x.k) (sym r.root))

-- numbers in least form that are one number are equal
pub one_least_form : (x y : Real) → IsLeast x → IsLeast y → lifted_root2 (numerator x) y.k ≡ lifted_root2 (numerator y) x.k → x ≡ y
one_least_form x y l m e =
    let d : y.k + x.k ≡ x.k + y.k = omega arith in
    sym l.is_least
    ∙ sym (least_raised y.k x.k (numerator x))
    ∙ least_both (y.k + x.k) (x.k + y.k) (lifted_root2 (numerator x) y.k) (lifted_root2 (numerator y) x.k) d e
    ∙ least_raised x.k y.k (numerator y)
    ∙ m.is_least

-- over one power of 2, equal numbers have equal numerators
pub least_of_same : (k : ℕ) (p q : Root2) → least_of k p ≡ least_of k q → p ≡ q
least_of_same k p q h =
    let x = least_of k p in
    let y = least_of k q in
    let r = least_reaches k p.a p.b in
    let s = least_reaches k q.a q.b in
    let e : x.k ≡ y.k = ap (λ (u : Real). u.k) h in
    let d : r.doublings ≡ s.doublings = omega (arith, r.exponent, s.exponent, e) in
    same_root2 p (lifted_root2 (numerator x) r.doublings) r.whole r.root
    ∙ ap (λ u. lifted_root2 (numerator u) r.doublings) h
    ∙ ap (lifted_root2 (numerator y)) d
    ∙ sym (same_root2 q (lifted_root2 (numerator y) s.doublings) s.whole s.root)

-- a number in least form is over 1, or not all of it is even
pub least_is_odd : (x : Real) → IsLeast x → 0 < x.k → (y : Root2) → lifted_root2 y 1 ≡ numerator x → ⊥
least_is_odd x l p y e =
    let k = x.k - 1 in
    let h : least_of k y ≡ x = least_halved x.k x.a x.b y.a y.b p (ap (λ (u : Root2). u.a) e) (ap (λ (u : Root2). u.b) e) ∙ l.is_least in
    let r = least_reaches k y.a y.b in
    let f : (least_of k y).k ≡ x.k = ap (λ (u : Real). u.k) h in
    omega (arith, r.exponent, f, p)

-- ---- the product

pub times_real_is : (x y : Real) → times_real x y ≡ least_of (x.k + y.k) (times_root2 (numerator x) (numerator y))
unfolding times_real
times_real_is x y = refl

pub times_real_is_least : (x y : Real) → IsLeast (times_real x y)
unfolding times_real
times_real_is_least x y = (let p = times_root2 (numerator x) (numerator y) in least_is_least (x.k + y.k) p.a p.b)

pub times_real_comm : (x y : Real) → times_real x y ≡ times_real y x
times_real_comm x y =
    let e : x.k + y.k ≡ y.k + x.k = omega arith in
    times_real_is x y
    ∙ least_both (x.k + y.k) (y.k + x.k) (times_root2 (numerator x) (numerator y)) (times_root2 (numerator y) (numerator x)) e (times_comm (numerator x) (numerator y))
    ∙ sym (times_real_is y x)

-- a product with a number that isn't in least form yet
times_form : (k : ℕ) (p : Root2) (y : Real) → times_real (least_of k p) y ≡ least_of (k + y.k) (times_root2 p (numerator y))
times_form k p y =
    let x = least_of k p in
    let r = least_reaches k p.a p.b in
    let n = r.doublings in
    let e : n + (x.k + y.k) ≡ k + y.k = omega (arith, r.exponent) in
    times_real_is x y
    ∙ sym (least_raised n (x.k + y.k) (times_root2 (numerator x) (numerator y)))
    ∙ least_both (n + (x.k + y.k)) (k + y.k) (lifted_root2 (times_root2 (numerator x) (numerator y)) n) (times_root2 (lifted_root2 (numerator x) n) (numerator y)) e (sym (lifted-times (numerator x) (numerator y) n))
    ∙ ap (λ q. least_of (k + y.k) (times_root2 q (numerator y))) (sym (same_root2 p (lifted_root2 (numerator x) n) r.whole r.root))

times_form_right : (x : Real) (k : ℕ) (q : Root2) → times_real x (least_of k q) ≡ least_of (x.k + k) (times_root2 (numerator x) q)
times_form_right x k q =
    let e : k + x.k ≡ x.k + k = omega arith in
    times_real_comm x (least_of k q) ∙ times_form k q x
    ∙ least_both (k + x.k) (x.k + k) (times_root2 q (numerator x)) (times_root2 (numerator x) q) e (times_comm q (numerator x))

abbrev over : ℕ → Root2 → Real
over k p = record { a = p.a; b = p.b; k = k }

pub times_real-least : (k m : ℕ) (p q : Root2) → times_real (least_of k p) (least_of m q) ≡ least_of (k + m) (times_root2 p q)
times_real-least k m p q = times_form k p (least_of m q) ∙ sym (times_real_is (over k p) (least_of m q)) ∙ times_form_right (over k p) m q

pub times_real_assoc : (x y z : Real) → times_real (times_real x y) z ≡ times_real x (times_real y z)
times_real_assoc x y z =
    let e : x.k + y.k + z.k ≡ x.k + (y.k + z.k) = omega arith in
    let xy = times_root2 (numerator x) (numerator y) in
    let yz = times_root2 (numerator y) (numerator z) in
    ap (λ r. times_real r z) (times_real_is x y)
    ∙ times_form (x.k + y.k) xy z
    ∙ least_both (x.k + y.k + z.k) (x.k + (y.k + z.k)) (times_root2 xy (numerator z)) (times_root2 (numerator x) yz) e (times_assoc (numerator x) (numerator y) (numerator z))
    ∙ sym (times_form_right x (y.k + z.k) yz)
    ∙ ap (times_real x) (sym (times_real_is y z))

-- ---- the product over the sum

abbrev pub plus_root2 : Root2 → Root2 → Root2
plus_root2 p q = record { a = p.a +ℤ q.a; b = p.b +ℤ q.b }

pub times_root2_plus : (x y z : Root2) → times_root2 x (plus_root2 y z) ≡ plus_root2 (times_root2 x y) (times_root2 x z)
times_root2_plus x y z = same_root2 (times_root2 x (plus_root2 y z)) (plus_root2 (times_root2 x y) (times_root2 x z))
    (simp distrib (omega (arith, ints)))
    (simp distrib (omega (arith, ints)))

pub times_lifted : (x y : Root2) (n : ℕ) → times_root2 x (lifted_root2 y n) ≡ lifted_root2 (times_root2 x y) n
times_lifted x y n = times_comm x (lifted_root2 y n) ∙ lifted-times y x n ∙ ap (λ u. lifted_root2 u n) (times_comm y x)

plus_real_is : (x y : Real) → plus_real x y ≡ least_of (x.k + y.k) (plus_root2 (lifted_root2 (numerator x) y.k) (lifted_root2 (numerator y) x.k))
unfolding plus_real
plus_real_is x y = refl

-- x·y over a higher power of 2
times_over : (x y : Real) (n k : ℕ) → k ≡ n + (x.k + y.k) → least_of k (times_root2 (numerator x) (lifted_root2 (numerator y) n)) ≡ times_real x y
times_over x y n k e =
    least_both k (n + (x.k + y.k)) (times_root2 (numerator x) (lifted_root2 (numerator y) n)) (lifted_root2 (times_root2 (numerator x) (numerator y)) n) e (times_lifted (numerator x) (numerator y) n)
    ∙ least_raised n (x.k + y.k) (times_root2 (numerator x) (numerator y))
    ∙ sym (times_real_is x y)

pub times_real_plus : (x y z : Real) → times_real x (plus_real y z) ≡ plus_real (times_real x y) (times_real x z)
times_real_plus x y z =
    let k = x.k + (y.k + z.k) in
    let p = lifted_root2 (numerator y) z.k in
    let q = lifted_root2 (numerator z) y.k in
    let xp = times_root2 (numerator x) p in
    let xq = times_root2 (numerator x) q in
    let e : x.k + (y.k + z.k) ≡ z.k + (x.k + y.k) = omega arith in
    let f : x.k + (y.k + z.k) ≡ y.k + (x.k + z.k) = omega arith in
    ap (times_real x) (plus_real_is y z)
    ∙ times_form_right x (y.k + z.k) (plus_root2 p q)
    ∙ ap (least_of k) (times_root2_plus (numerator x) p q)
    ∙ sym (plus_real-least k xp.a xp.b xq.a xq.b)
    ∙ ap (λ r. plus_real r (least_of k xq)) (times_over x y z.k k e)
    ∙ ap (plus_real (times_real x y)) (times_over x z y.k k f)

pub plus_real_times : (x y z : Real) → times_real (plus_real x y) z ≡ plus_real (times_real x z) (times_real y z)
plus_real_times x y z =
    times_real_comm (plus_real x y) z ∙ times_real_plus z x y ∙ ap (λ r. plus_real r (times_real z y)) (times_real_comm z x)
    ∙ ap (plus_real (times_real x z)) (times_real_comm z y)

-- ---- 0 and 1

zero_root2 : Root2
zero_root2 = record { a = pos 0; b = pos 0 }

pub zero_times_root2 : (p : Root2) → times_root2 (record { a = pos 0; b = pos 0 }) p ≡ record { a = pos 0; b = pos 0 }
zero_times_root2 p = same_root2 (times_root2 (record { a = pos 0; b = pos 0 }) p) (record { a = pos 0; b = pos 0 }) (omega (arith, ints)) (omega (arith, ints))

pub zero_real-times : (x : Real) → times_real zero_real x ≡ zero_real
zero_real-times x = times_real_is zero_real x ∙ ap (least_of (0 + x.k)) (zero_times_root2 (numerator x)) ∙ least-zero (0 + x.k)

pub times_real-zero : (x : Real) → times_real x zero_real ≡ zero_real
times_real-zero x = times_real_comm x zero_real ∙ zero_real-times x

pub one_real-times : (x : Real) → IsLeast x → times_real one_real x ≡ x
one_real-times x l =
    let e : 0 + x.k ≡ x.k = omega arith in
    times_real_is one_real x ∙ least_both (0 + x.k) x.k (times_root2 one_root2 (numerator x)) (numerator x) e (one-times (numerator x)) ∙ l.is_least

pub times_real-one : (x : Real) → IsLeast x → times_real x one_real ≡ x
times_real-one x l = times_real_comm x one_real ∙ one_real-times x l

pub one_real_is_least : IsLeast one_real
one_real_is_least = least_is_least 0 (pos 1) (pos 0)
