-- The full product of an embedded matrix with a list of entries, as a reader says it, is the gate's action on chosen qubits.
use Rattle.std.proofs.Common.{◌≡◌, ℕ, zero, suc, ◌+◌, ◌^◌, ◌<◌, Bool, true, false, ◌&&◌, ◌||◌, List, [], ◌∷◌, length, map, get_or, nat_eq, refl, sym, ap, ◌∙◌, arith, eq-eqb}
use mathlib.Core.Path.{fun_ext}
use borrow.Author.Tests.{eqb-true}
use Rattle.std.specs.List.{range_with_len}
use Rattle.qt_ring.specs.declared.omega.Omega.{Omega}
use Rattle.qt_ring.specs.Ring.{nil, times}
use Rattle.qt_ring.specs.Places.{Bits, at, get, equal_bits, chosen, agree_outside, bits_of, number, AreQubits}
use Rattle.qt_ring.specs.Matrix.{Matrix, kept, same, sum, embedded}
use Rattle.qt_ring.specs.State.{entries_by, dot, multiplied}
use Rattle.qt_ring.proofs.RingLaws.{plus_both}
use Rattle.qt_ring.proofs.Bits.{Long, put, write}
use Rattle.qt_ring.proofs.Sums.{Vector, sum_ext, act, spread, spread_acts}
use Rattle.qt_ring.proofs.Entries.{entry, number_bits_of, entries_by_ext, sum_from, sum_numbers}

-- ---- a dot with a row is a sum over basis states
dot_from : (row : ℕ → Omega) (es : List Omega) (j : ℕ) (f : ℕ → Omega) → ((k : ℕ) → k < length es → f (j + k) ≡ times (row (j + k)) (get_or es k nil)) → dot row j es ≡ sum_from j (length es) f
dot_from row [] j f h = refl
dot_from row (e ∷ es) j f h =
    let z : j + 0 ≡ j = omega arith in
    let first : times (row j) e ≡ f j = sym (ap f (sym z) ∙ h 0 (omega arith) ∙ ap (λ k. times (row k) e) z) in
    plus_both _ _ _ _ first (dot_from row es (suc j) f (λ k l.
    let s : suc j + k ≡ j + suc k = omega arith in
    ap f s ∙ h (suc k) (omega arith) ∙ ap (λ t. times (row t) (get_or es k nil)) (sym s)))

-- the product by dots is the product by basis states
pub multiplied_is : (n : ℕ) (m : Matrix) (es : List Omega) → length es ≡ 2 ^ n → multiplied n m es ≡ entries_by n (λ x. sum n (λ y. times (m x y) (entry es y)))
multiplied_is n m es e = ap (λ f. map f (range_with_len 0 (2 ^ n))) (fun_ext (λ i.
    dot_from (λ j. m (bits_of n i) (bits_of n j)) es 0 (λ j. times (m (bits_of n i) (bits_of n j)) (entry es (bits_of n j))) (λ k l.
    let z : 0 + k ≡ k = omega arith in
    let b : k < 2 ^ n = omega arith in
    ap (λ t. times (m (bits_of n i) (bits_of n t)) (entry es (bits_of n t))) z
    ∙ ap (λ t. times (m (bits_of n i) (bits_of n k)) (get_or es t nil)) (number_bits_of n k b)
    ∙ ap (λ t. times (m (bits_of n i) (bits_of n t)) (get_or es k nil)) (sym z))
    ∙ ap (λ s. sum_from 0 s (λ j. times (m (bits_of n i) (bits_of n j)) (entry es (bits_of n j)))) e
    ∙ sum_numbers n (λ y. times (m (bits_of n i) y) (entry es y))))

-- ---- all other bits agree
nat_eq_refl : (p : ℕ) → nat_eq p p ≡ true
nat_eq_refl p = eq-eqb p p refl

differ_by : (p q : ℕ) (t : Bool) → nat_eq p q ≡ t → (p ≡ q → ⊥) → t ≡ false
differ_by p q true e h = absurd (h (eqb-true p q e))
differ_by p q false e h = refl

differ : (p q : ℕ) → (p ≡ q → ⊥) → nat_eq p q ≡ false
differ p q h = differ_by p q (nat_eq p q) refl h

agree_free : (p q : ℕ) (qs : List ℕ) (x y : Bits) → q < p → agree_outside p (q ∷ qs) x y ≡ agree_outside p qs x y
agree_free p q qs [] [] h = refl
agree_free p q qs [] (b ∷ y) h = refl
agree_free p q qs (a ∷ x) [] h = refl
agree_free p q qs (a ∷ x) (b ∷ y) h =
    ap (λ t. ((t || chosen p qs) || equal_bits a b) && agree_outside (suc p) (q ∷ qs) x y) (differ p q (λ e. omega arith))
    ∙ ap (λ t. (chosen p qs || equal_bits a b) && t) (agree_free (suc p) q qs x y (omega arith))

equal_bits_refl : (b : Bool) → equal_bits b b ≡ true
equal_bits_refl true = refl
equal_bits_refl false = refl

or_true : (a : Bool) → (a || true) ≡ true
or_true true = refl
or_true false = refl

-- one more chosen qubit: the bit of y is written into x
agree_put : (p q : ℕ) (qs : List ℕ) (x y : Bits) → agree_outside p ((p + q) ∷ qs) x y ≡ agree_outside p qs (put q (at q y) x) y
agree_put p q qs [] [] = refl
agree_put p q qs [] (b ∷ y) = refl
agree_put p zero qs (a ∷ x) [] = refl
agree_put p (suc q) qs (a ∷ x) [] = refl
agree_put p zero qs (a ∷ x) (b ∷ y) =
    let z : p + 0 ≡ p = omega arith in
    ap (λ r. ((nat_eq p r || chosen p qs) || equal_bits a b) && agree_outside (suc p) (r ∷ qs) x y) z
    ∙ ap (λ t. ((t || chosen p qs) || equal_bits a b) && agree_outside (suc p) (p ∷ qs) x y) (nat_eq_refl p)
    ∙ agree_free (suc p) p qs x y (omega arith)
    ∙ ap (λ t. t && agree_outside (suc p) qs x y) (sym (ap (λ t. chosen p qs || t) (equal_bits_refl b) ∙ or_true (chosen p qs)))
agree_put p (suc q) qs (a ∷ x) (b ∷ y) =
    let z : p + suc q ≡ suc p + q = omega arith in
    ap (λ r. ((nat_eq p r || chosen p qs) || equal_bits a b) && agree_outside (suc p) (r ∷ qs) x y) z
    ∙ ap (λ t. ((t || chosen p qs) || equal_bits a b) && agree_outside (suc p) ((suc p + q) ∷ qs) x y) (differ p (suc p + q) (λ e. omega arith))
    ∙ ap (λ t. (chosen p qs || equal_bits a b) && t) (agree_put (suc p) q qs x y)

agree_same : (p : ℕ) (x y : Bits) → agree_outside p [] x y ≡ same x y
agree_same p [] [] = refl
agree_same p [] (b ∷ y) = refl
agree_same p (true ∷ x) [] = refl
agree_same p (false ∷ x) [] = refl
agree_same p (true ∷ x) (true ∷ y) = agree_same (suc p) x y
agree_same p (false ∷ x) (false ∷ y) = agree_same (suc p) x y
agree_same p (true ∷ x) (false ∷ y) = refl
agree_same p (false ∷ x) (true ∷ y) = refl

-- the two ways to say that all other bits agree
pub agree_is : (qs : List ℕ) (x y : Bits) → agree_outside 0 qs x y ≡ same (write qs (get qs y) x) y
agree_is [] x y = agree_same 0 x y
agree_is (q ∷ qs) x y =
    let z : q ≡ 0 + q = omega arith in
    ap (λ r. agree_outside 0 (r ∷ qs) x y) z ∙ agree_put 0 q qs x y ∙ agree_is qs (put q (at q y) x) y

pub embedded_is : (m : Matrix) (qs : List ℕ) (x y : Bits) → embedded m qs x y ≡ spread m qs x y
embedded_is m qs x y = ap (λ t. kept t (m (get qs x) (get qs y))) (agree_is qs x y)

-- ---- the product of an embedded matrix
pub embedded_acts_at : (n : ℕ) (m : Matrix) (qs : List ℕ) (v : Vector) (x : Bits) → AreQubits n qs → Long n x → sum n (λ y. times (embedded m qs x y) (v y)) ≡ act m qs v x
embedded_acts_at n m qs v x f l =
    sum_ext n _ _ (λ y k. ap (λ t. times t (v y)) (embedded_is m qs x y)) ∙ spread_acts n m qs v x f l

pub embedded_acts : (n : ℕ) (m : Matrix) (qs : List ℕ) (es : List Omega) → AreQubits n qs → length es ≡ 2 ^ n → multiplied n (embedded m qs) es ≡ entries_by n (act m qs (λ x. get_or es (number x) nil))
embedded_acts n m qs es f e =
    multiplied_is n (embedded m qs) es e
    ∙ entries_by_ext n (λ x. sum n (λ y. times (embedded m qs x y) (entry es y))) (act m qs (entry es)) (λ x l. embedded_acts_at n m qs (entry es) x f l)
