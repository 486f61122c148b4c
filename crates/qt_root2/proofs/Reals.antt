-- The sum of real numbers over the least power of two: a commutative monoid on the numbers in least form.
use Rattle.std.proofs.Common.{◌≡◌, ℕ, zero, suc, ◌+◌, ◌-◌, ◌/◌, ◌%◌, ◌<◌, ◌≤◌, Option, Some, None, refl, sym, ap, ◌∙◌, arith, ℤ, pos, negsuc, ◌+ℤ◌}
use Rattle.std.specs.Prelude.{◌==◌, cond}
use lib.IntN.{+ℤ_comm, +ℤ_assoc}
use Rattle.std.proofs.lemmas.Int.{ints}
pub use Rattle.qt_root2.proofs.Good.{good_plus}
use Rattle.qt_root2.specs.Real.{Real, half_of, signed, half, halved, least, lifted, zero_real, plus_real}

-- ---- halves

half_twice : (n m : ℕ) → n ≡ m + m → half_of n ≡ Some m
half_twice n m e =
    let r : n % 2 ≡ 0 = omega (arith, e) in
    let d : n / 2 ≡ m = omega (arith, e) in
    ap (λ k. cond (k == 0) (Some (n / 2)) None) r ∙ ap Some d

half_was : (n m : ℕ) → half_of n ≡ Some m → n ≡ m + m
half_was n m h = go (n % 2) refl
  where
    go : (r : ℕ) → n % 2 ≡ r → n ≡ m + m
    go zero e =
        let s : Some (n / 2) ≡ Some m = ap (λ k. cond (k == 0) (Some (n / 2)) None) (sym e) ∙ h in
        let d : n / 2 ≡ m = cc in
        omega arith
    go (suc r) e =
        let f : n % 2 ≡ 1 = omega arith in
        let s : None ≡ Some m = ap (λ k. cond (k == 0) (Some (n / 2)) None) (sym f) ∙ h in
        cc

pub half_double : (z : ℤ) → half (z +ℤ z) ≡ Some z
half_double (pos n) = ap (signed pos) (half_twice (n + n) n refl)
half_double (negsuc n) =
    let e : suc (n + n) + 1 ≡ suc n + suc n = omega arith in
    let d : suc n - 1 ≡ n = omega arith in
    ap (signed (λ m. negsuc (m - 1))) (half_twice (suc (n + n) + 1) (suc n) e) ∙ ap (λ m. Some (negsuc m)) d

pub half_some : (z h : ℤ) → half z ≡ Some h → z ≡ h +ℤ h
half_some (pos n) h e = go (half_of n) refl e
  where
    go : (o : Option ℕ) → half_of n ≡ o → signed pos o ≡ Some h → pos n ≡ h +ℤ h
    go None f g = cc
    go (Some m) f g =
        let s : pos m ≡ h = cc in
        let t : n ≡ m + m = half_was n m f in
        ap pos t ∙ ap (λ x. x +ℤ x) s
half_some (negsuc n) h e = go (half_of (n + 1)) refl e
  where
    go : (o : Option ℕ) → half_of (n + 1) ≡ o → signed (λ m. negsuc (m - 1)) o ≡ Some h → negsuc n ≡ h +ℤ h
    go None f g = cc
    go (Some m) f g =
        let s : negsuc (m - 1) ≡ h = cc in
        let t : n + 1 ≡ m + m = half_was (n + 1) m f in
        let u : n ≡ suc ((m - 1) + (m - 1)) = omega arith in
        ap negsuc u ∙ ap (λ x. x +ℤ x) s

-- ---- the least form, and numbers lifted

pub least_double : (k : ℕ) (a b : ℤ) → least (suc k) (a +ℤ a) (b +ℤ b) ≡ least k a b
least_double k a b =
    let whole : Real = record { a = a +ℤ a; b = b +ℤ b; k = suc k } in
    ap (λ o. halved o (half (b +ℤ b)) whole (least k)) (half_double a) ∙ ap (λ o. halved (Some a) o whole (least k)) (half_double b)

pub least_lifted : (n k : ℕ) (a b : ℤ) → least (n + k) (lifted a n) (lifted b n) ≡ least k a b
least_lifted zero k a b = let e : 0 + k ≡ k = omega arith in ap (λ m. least m a b) e
least_lifted (suc n) k a b =
    let e : suc n + k ≡ suc (n + k) = omega arith in
    ap (λ m. least m (lifted a (suc n)) (lifted b (suc n))) e ∙ least_double (n + k) (lifted a n) (lifted b n) ∙ least_lifted n k a b

double_add : (a b : ℤ) → (a +ℤ b) +ℤ (a +ℤ b) ≡ (a +ℤ a) +ℤ (b +ℤ b)
double_add a b = omega (arith, ints)

pub lifted-add : (a b : ℤ) (n : ℕ) → lifted (a +ℤ b) n ≡ lifted a n +ℤ lifted b n
lifted-add a b zero = refl
lifted-add a b (suc n) = ap (λ z. z +ℤ z) (lifted-add a b n) ∙ double_add (lifted a n) (lifted b n)

pub lifted-lifted : (a : ℤ) (m n : ℕ) → lifted (lifted a m) n ≡ lifted a (n + m)
lifted-lifted a m zero = let e : m ≡ 0 + m = omega arith in ap (lifted a) e
lifted-lifted a m (suc n) = let e : suc (n + m) ≡ suc n + m = omega arith in ap (λ z. z +ℤ z) (lifted-lifted a m n) ∙ ap (lifted a) e

pub lifted_swap : (a : ℤ) (m n : ℕ) → lifted (lifted a m) n ≡ lifted (lifted a n) m
lifted_swap a m n = let e : n + m ≡ m + n = omega arith in lifted-lifted a m n ∙ ap (lifted a) e ∙ sym (lifted-lifted a n m)

pub lifted-zero : (n : ℕ) → lifted (pos 0) n ≡ pos 0
lifted-zero zero = refl
lifted-zero (suc n) = ap (λ z. z +ℤ z) (lifted-zero n)

pub lifted_same : (n : ℕ) (a b : ℤ) → lifted a n ≡ lifted b n → a ≡ b
lifted_same zero a b h = h
lifted_same (suc n) a b h = lifted_same n a b (twice (lifted a n) (lifted b n) h)
  where
    twice : (x y : ℤ) → x +ℤ x ≡ y +ℤ y → x ≡ y
    twice x y e = omega (arith, ints, e)

-- x and y are one number
record Same (x y : Real) : Type 0 where
  a_same : lifted x.a y.k ≡ lifted y.a x.k
  b_same : lifted x.b y.k ≡ lifted y.b x.k

abbrev pub over : ℕ → ℤ → ℤ → Real
over k a b = record { a = a; b = b; k = k }

-- the least form stands for the same number
least_same : (k : ℕ) (a b : ℤ) → Same (least k a b) (over k a b)
least_same zero a b = record { a_same = refl; b_same = refl }
least_same (suc k) a b = go (λ x y. least_same k x y) (half a) (half b) refl refl
  where
    go : ((x y : ℤ) → Same (least k x y) (over k x y)) → (o p : Option ℤ) → half a ≡ o → half b ≡ p → Same (halved o p (record { a = a; b = b; k = suc k }) (least k)) (over (suc k) a b)
    go ih (Some x) (Some y) e f =
        let s = ih x y in
        let r = least k x y in
        let u : a ≡ x +ℤ x = half_some a x e in
        let v : b ≡ y +ℤ y = half_some b y f in
        record {
          a_same = ap (λ z. z +ℤ z) s.a_same ∙ lifted_swap x r.k 1 ∙ ap (λ z. lifted z r.k) (sym u);
          b_same = ap (λ z. z +ℤ z) s.b_same ∙ lifted_swap y r.k 1 ∙ ap (λ z. lifted z r.k) (sym v);
        }
    go ih None p e f = record { a_same = refl; b_same = refl }
    go ih (Some x) None e f = record { a_same = refl; b_same = refl }

-- one number has one least form
one_least : (x y : Real) → Same x y → least x.k x.a x.b ≡ least y.k y.a y.b
one_least x y s =
    let e : y.k + x.k ≡ x.k + y.k = omega arith in
    sym (least_lifted y.k x.k x.a x.b)
    ∙ ap (λ k. least k (lifted x.a y.k) (lifted x.b y.k)) e
    ∙ ap (λ a. least (x.k + y.k) a (lifted x.b y.k)) s.a_same
    ∙ ap (λ b. least (x.k + y.k) (lifted y.a x.k) b) s.b_same
    ∙ least_lifted x.k y.k y.a y.b

-- ---- numbers in least form

-- x is over the least power of two
pub record IsLeast (x : Real) : Type 0 where
  pub is_least : least x.k x.a x.b ≡ x

pub least_is_least : (k : ℕ) (a b : ℤ) → IsLeast (least k a b)
least_is_least k a b = record { is_least = one_least (least k a b) (over k a b) (least_same k a b) }

pub zero_real_is_least : IsLeast zero_real
zero_real_is_least = least_is_least 0 (pos 0) (pos 0)

pub least-zero : (k : ℕ) → least k (pos 0) (pos 0) ≡ zero_real
least-zero zero = refl
least-zero (suc k) = least-zero k

pub least_zero_only : (k : ℕ) (a b : ℤ) → least k a b ≡ zero_real → (a ≡ pos 0) × (b ≡ pos 0)
least_zero_only k a b h =
    let s = least_same k a b in (
      sym (ap (λ r. lifted a r.k) h) ∙ sym s.a_same ∙ ap (λ r. lifted r.a k) h ∙ lifted-zero k,
      sym (ap (λ r. lifted b r.k) h) ∙ sym s.b_same ∙ ap (λ r. lifted r.b k) h ∙ lifted-zero k,
    )

-- ---- the sum

-- the sum before it is reduced
abbrev plain_sum : Real → Real → Real
plain_sum x y = record { a = lifted x.a y.k +ℤ lifted y.a x.k; b = lifted x.b y.k +ℤ lifted y.b x.k; k = x.k + y.k }

abbrev form : Real → Real
form x = least x.k x.a x.b

plus_real_is : (x y : Real) → plus_real x y ≡ form (plain_sum x y)
unfolding plus_real
plus_real_is x y = refl

pub plus_real_is_least : (x y : Real) → IsLeast (plus_real x y)
unfolding plus_real
plus_real_is_least x y = least_is_least (x.k + y.k) (lifted x.a y.k +ℤ lifted y.a x.k) (lifted x.b y.k +ℤ lifted y.b x.k)

pub plus_real_comm : (x y : Real) → plus_real x y ≡ plus_real y x
unfolding plus_real
plus_real_comm x y =
    let e : x.k + y.k ≡ y.k + x.k = omega arith in
    ap (λ k. least k (lifted x.a y.k +ℤ lifted y.a x.k) (lifted x.b y.k +ℤ lifted y.b x.k)) e
    ∙ ap (λ a. least (y.k + x.k) a (lifted x.b y.k +ℤ lifted y.b x.k)) (+ℤ_comm (lifted x.a y.k) (lifted y.a x.k))
    ∙ ap (λ b. least (y.k + x.k) (lifted y.a x.k +ℤ lifted x.a y.k) b) (+ℤ_comm (lifted x.b y.k) (lifted y.b x.k))

part_same : (p q r : ℤ) (m n k : ℕ) → lifted p n ≡ lifted q m → lifted (lifted p k +ℤ lifted r m) (n + k) ≡ lifted (lifted q k +ℤ lifted r n) (m + k)
part_same p q r m n k h =
    lifted-add (lifted p k) (lifted r m) (n + k) ∙ ap (λ z. z +ℤ lifted (lifted r m) (n + k)) first ∙ ap (λ z. lifted (lifted q k) (m + k) +ℤ z) second ∙ sym (lifted-add (lifted q k) (lifted r n) (m + k))
  where
    first : lifted (lifted p k) (n + k) ≡ lifted (lifted q k) (m + k)
    first =
        lifted_swap p k (n + k) ∙ ap (λ z. lifted z k) (sym (lifted-lifted p k n) ∙ lifted_swap p k n ∙ ap (λ z. lifted z k) h ∙ lifted_swap q m k ∙ lifted-lifted q k m) ∙ lifted_swap q (m + k) k

    second : lifted (lifted r m) (n + k) ≡ lifted (lifted r n) (m + k)
    second = let e : n + k + m ≡ m + k + n = omega arith in lifted-lifted r m (n + k) ∙ ap (lifted r) e ∙ sym (lifted-lifted r n (m + k))

sum_same : (x y z : Real) → Same x y → Same (plain_sum x z) (plain_sum y z)
sum_same x y z s = record {
  a_same = part_same x.a y.a z.a x.k y.k z.k s.a_same;
  b_same = part_same x.b y.b z.b x.k y.k z.k s.b_same;
}

part_assoc : (p q r : ℤ) (m n k : ℕ) → lifted (lifted p n +ℤ lifted q m) k +ℤ lifted r (m + n) ≡ lifted p (n + k) +ℤ lifted (lifted q k +ℤ lifted r n) m
part_assoc p q r m n k =
    let e : k + n ≡ n + k = omega arith in
    ap (λ z. z +ℤ lifted r (m + n)) (lifted-add (lifted p n) (lifted q m) k)
    ∙ +ℤ_assoc (lifted (lifted p n) k) (lifted (lifted q m) k) (lifted r (m + n))
    ∙ ap (λ z. z +ℤ (lifted (lifted q m) k +ℤ lifted r (m + n))) (lifted-lifted p n k ∙ ap (lifted p) e)
    ∙ ap (λ z. lifted p (n + k) +ℤ z) (ap (λ u. u +ℤ lifted r (m + n)) (lifted_swap q m k) ∙ ap (λ u. lifted (lifted q k) m +ℤ u) (sym (lifted-lifted r n m)) ∙ sym (lifted-add (lifted q k) (lifted r n) m))

plain_assoc : (x y z : Real) → plain_sum (plain_sum x y) z ≡ plain_sum x (plain_sum y z)
plain_assoc x y z =
    let e : x.k + y.k + z.k ≡ x.k + (y.k + z.k) = omega arith in
    three _ _ _ _ _ _ (part_assoc x.a y.a z.a x.k y.k z.k) (part_assoc x.b y.b z.b x.k y.k z.k) e
  where
    three : (a b c d : ℤ) (m n : ℕ) → a ≡ c → b ≡ d → m ≡ n → (let p : Real = record { a = a; b = b; k = m } in let q : Real = record { a = c; b = d; k = n } in p ≡ q)
    three a b c d m n p q r = cc

-- a sum of one number in two forms
pub plus_real_form : (x y z : Real) → least x.k x.a x.b ≡ y → plus_real y z ≡ form (plain_sum x z)
plus_real_form x y z h =
    ap (λ r. plus_real r z) (sym h)
    ∙ plus_real_is (form x) z
    ∙ one_least (plain_sum (form x) z) (plain_sum x z) (sum_same (form x) x z (least_same x.k x.a x.b))

pub plus_real_assoc : (x y z : Real) → plus_real (plus_real x y) z ≡ plus_real x (plus_real y z)
plus_real_assoc x y z =
    plus_real_form (plain_sum x y) (plus_real x y) z (sym (plus_real_is x y))
    ∙ ap form (plain_assoc x y z)
    ∙ sym (plus_real_is x (plain_sum y z))
    ∙ plus_real_comm x (plain_sum y z)
    ∙ plus_real_is (plain_sum y z) x
    ∙ sym (plus_real_form (plain_sum y z) (plus_real y z) x (sym (plus_real_is y z)))
    ∙ plus_real_comm (plus_real y z) x

pub plus_real-zero : (x : Real) → IsLeast x → plus_real x zero_real ≡ x
plus_real-zero x l =
    let e : x.k + 0 ≡ x.k = omega arith in
    plus_real_is x zero_real
    ∙ ap (λ k. least k (x.a +ℤ lifted (pos 0) x.k) (x.b +ℤ lifted (pos 0) x.k)) e
    ∙ ap (λ z. least x.k (x.a +ℤ z) (x.b +ℤ z)) (lifted-zero x.k)
    ∙ ap (λ z. least x.k z (x.b +ℤ pos 0)) (plus_zero x.a)
    ∙ ap (least x.k x.a) (plus_zero x.b)
    ∙ l.is_least
  where
    plus_zero : (z : ℤ) → z +ℤ pos 0 ≡ z
    plus_zero z = omega (arith, ints)

pub zero_real-plus : (x : Real) → IsLeast x → plus_real zero_real x ≡ x
zero_real-plus x l = plus_real_comm zero_real x ∙ plus_real-zero x l

pub plus_real-least : (k : ℕ) (a b c d : ℤ) → plus_real (least k a b) (least k c d) ≡ least k (a +ℤ c) (b +ℤ d)
plus_real-least k a b c d =
    let p = over k a b in
    let q = over k c d in
    plus_real_form p (least k a b) (least k c d) refl
    ∙ sym (plus_real_is p (least k c d))
    ∙ plus_real_comm p (least k c d)
    ∙ plus_real_form q (least k c d) p refl
    ∙ ap (least (k + k) (lifted c k +ℤ lifted a k)) (turn d b)
    ∙ ap (λ z. least (k + k) z (lifted (b +ℤ d) k)) (turn c a)
    ∙ least_lifted k k (a +ℤ c) (b +ℤ d)
  where
    turn : (x y : ℤ) → lifted x k +ℤ lifted y k ≡ lifted (y +ℤ x) k
    turn x y = +ℤ_comm (lifted x k) (lifted y k) ∙ sym (lifted-add y x k)

-- ---- one step toward the least form

pub least_halved : (k : ℕ) (a b x y : ℤ) → 0 < k → x +ℤ x ≡ a → y +ℤ y ≡ b → least (k - 1) x y ≡ least k a b
least_halved zero a b x y p e f = absurd (omega (arith, p))
least_halved (suc k) a b x y p e f =
    let d : suc k - 1 ≡ k = omega arith in
    ap (λ n. least n x y) d ∙ sym (least_double k x y) ∙ ap (λ z. least (suc k) z (y +ℤ y)) e ∙ ap (least (suc k) a) f

-- a number of which no half is whole is in least form
pub least_odd : (k : ℕ) (a b : ℤ) → ((x y : ℤ) → x +ℤ x ≡ a → y +ℤ y ≡ b → ⊥) → least k a b ≡ over k a b
least_odd zero a b odd = refl
least_odd (suc k) a b odd = go (half a) (half b) refl refl
  where
    go : (o p : Option ℤ) → half a ≡ o → half b ≡ p → halved o p (over (suc k) a b) (least k) ≡ over (suc k) a b
    go (Some x) (Some y) e f = absurd (odd x y (sym (half_some a x e)) (sym (half_some b y f)))
    go None p e f = refl
    go (Some x) None e f = refl

pub least_none : (k : ℕ) (a b : ℤ) → k ≤ 0 → least k a b ≡ over k a b
least_none zero a b h = refl
least_none (suc k) a b h = absurd (omega (arith, h))
