-- Sums over all basis states; a gate's matrix on chosen qubits, as a sum over the chosen bits alone.
use Rattle.std.proofs.Common.{◌≡◌, ℕ, zero, suc, ◌<◌, Bool, true, false, List, [], ◌∷◌, length, refl, sym, ap, ◌∙◌}
use Rattle.qt_ring.specs.declared.omega.Omega.{Omega}
use Rattle.qt_ring.specs.Ring.{nil, plus, times}
use Rattle.qt_ring.specs.Places.{Bits, at, get, equal_bits, Free, AreQubits}
use Rattle.qt_ring.specs.Matrix.{Matrix, same, kept, sum}
use Rattle.qt_ring.proofs.RingLaws.{plus-nil, nil-plus, nil-times, times-plus, plus-times, plus_both, plus_cross}
use Rattle.qt_ring.proofs.Bits.{Long, put, write, at_put_same, put_long, get_write, same_eq, at_write_free}

pub sum_ext : (n : ℕ) (f g : Bits → Omega) → ((x : Bits) → Long n x → f x ≡ g x) → sum n f ≡ sum n g
sum_ext zero f g h = h [] tt
sum_ext (suc n) f g h = plus_both _ _ _ _ (sum_ext n (λ x. f (false ∷ x)) (λ x. g (false ∷ x)) (λ x l. h (false ∷ x) l)) (sum_ext n (λ x. f (true ∷ x)) (λ x. g (true ∷ x)) (λ x l. h (true ∷ x) l))

pub sum-nil : (n : ℕ) → sum n (λ x. nil) ≡ nil
sum-nil zero = refl
sum-nil (suc n) = plus_both _ _ _ _ (sum-nil n) (sum-nil n) ∙ plus-nil nil

pub sum-plus : (n : ℕ) (f g : Bits → Omega) → sum n (λ x. plus (f x) (g x)) ≡ plus (sum n f) (sum n g)
sum-plus zero f g = refl
sum-plus (suc n) f g =
    plus_both _ _ _ _ (sum-plus n (λ x. f (false ∷ x)) (λ x. g (false ∷ x))) (sum-plus n (λ x. f (true ∷ x)) (λ x. g (true ∷ x)))
    ∙ plus_cross _ _ _ _

pub times-sum : (n : ℕ) (a : Omega) (f : Bits → Omega) → times a (sum n f) ≡ sum n (λ x. times a (f x))
times-sum zero a f = refl
times-sum (suc n) a f = times-plus a _ _ ∙ plus_both _ _ _ _ (times-sum n a (λ x. f (false ∷ x))) (times-sum n a (λ x. f (true ∷ x)))

pub sum-times : (n : ℕ) (a : Omega) (f : Bits → Omega) → times (sum n f) a ≡ sum n (λ x. times (f x) a)
sum-times zero a f = refl
sum-times (suc n) a f = plus-times _ _ a ∙ plus_both _ _ _ _ (sum-times n a (λ x. f (false ∷ x))) (sum-times n a (λ x. f (true ∷ x)))

pub sum_swap : (n k : ℕ) (f : Bits → Bits → Omega) → sum n (λ x. sum k (λ y. f x y)) ≡ sum k (λ y. sum n (λ x. f x y))
sum_swap zero k f = refl
sum_swap (suc n) k f =
    plus_both _ _ _ _ (sum_swap n k (λ x y. f (false ∷ x) y)) (sum_swap n k (λ x y. f (true ∷ x) y))
    ∙ sym (sum-plus k (λ y. sum n (λ x. f (false ∷ x) y)) (λ y. sum n (λ x. f (true ∷ x) y)))

-- the sum with one place that is not left out
pub sum_pick : (n : ℕ) (x : Bits) (g : Bits → Omega) → Long n x → sum n (λ y. kept (same x y) (g y)) ≡ g x
sum_pick zero [] g l = refl
sum_pick zero (b ∷ x) g l = absurd l
sum_pick (suc n) [] g l = absurd l
sum_pick (suc n) (false ∷ x) g l = plus_both _ _ _ _ (sum_pick n x (λ y. g (false ∷ y)) l) (sum-nil n) ∙ plus-nil _
sum_pick (suc n) (true ∷ x) g l = plus_both _ _ _ _ (sum-nil n) (sum_pick n x (λ y. g (true ∷ y)) l) ∙ nil-plus _

halves : (b : Bool) (a : Omega) → a ≡ plus (kept (equal_bits false b) a) (kept (equal_bits true b) a)
halves false a = sym (plus-nil a)
halves true a = sym (nil-plus a)

-- the sum by the bit of one qubit
pub sum_halves : (n q : ℕ) (f : Bits → Omega) → sum n f ≡ plus (sum n (λ y. kept (equal_bits false (at q y)) (f y))) (sum n (λ y. kept (equal_bits true (at q y)) (f y)))
sum_halves n q f = sum_ext n f (λ y. plus (kept (equal_bits false (at q y)) (f y)) (kept (equal_bits true (at q y)) (f y))) (λ y l. halves (at q y) (f y)) ∙ sum-plus n (λ y. kept (equal_bits false (at q y)) (f y)) (λ y. kept (equal_bits true (at q y)) (f y))

kept_differs : (t : Bool) (a : Omega) → (t ≡ true → ⊥) → kept t a ≡ nil
kept_differs true a h = absurd (h refl)
kept_differs false a h = refl

equal_bits_not : (b c : Bool) → equal_bits b c ≡ false → b ≡ c → ⊥
equal_bits_not true true e h = cc
equal_bits_not false false e h = cc
equal_bits_not true false e h = cc
equal_bits_not false true e h = cc

equal_bits_eq : (b c : Bool) → equal_bits b c ≡ true → c ≡ b
equal_bits_eq true true e = refl
equal_bits_eq false false e = refl
equal_bits_eq true false e = absurd (cc)
equal_bits_eq false true e = absurd (cc)

-- one step of `gather`, by whether y has the bit b
one_bit : (n q : ℕ) (qs : List ℕ) (x y : Bits) (b t : Bool) (a : Omega) → q < n → Free q qs → Long n x → equal_bits b (at q y) ≡ t → kept t (kept (same (write qs (get qs y) (put q (at q y) x)) y) a) ≡ kept (same (write qs (get qs y) (put q b x)) y) a
one_bit n q qs x y b true a h f l e = ap (λ c. kept (same (write qs (get qs y) (put q c x)) y) a) (equal_bits_eq b (at q y) e)
one_bit n q qs x y b false a h f l e =
    sym (kept_differs (same (write qs (get qs y) (put q b x)) y) a (λ s.
    equal_bits_not b (at q y) e (sym (at_put_same n q b x h l) ∙ sym (at_write_free q qs (get qs y) (put q b x) f) ∙ ap (at q) (same_eq (write qs (get qs y) (put q b x)) y s))))

-- a sum over the places that differ from x in the chosen qubits alone is one over the chosen bits
pub gather : (n : ℕ) (qs : List ℕ) (x : Bits) (g : Bits → Omega) → AreQubits n qs → Long n x → sum n (λ y. kept (same (write qs (get qs y) x) y) (g y)) ≡ sum (length qs) (λ z. g (write qs z x))
gather n [] x g f l = sum_pick n x g l
gather n (q ∷ qs) x g f l =
    sum_halves n q (λ y. kept (same (write qs (get qs y) (put q (at q y) x)) y) (g y))
    ∙ plus_both _ _ _ _
    (sum_ext n _ _ (λ y m. one_bit n q qs x y false (equal_bits false (at q y)) (g y) f.0 f.1 l refl) ∙ gather n qs (put q false x) g f.2 (put_long n q false x l))
    (sum_ext n _ _ (λ y m. one_bit n q qs x y true (equal_bits true (at q y)) (g y) f.0 f.1 l refl) ∙ gather n qs (put q true x) g f.2 (put_long n q true x l))

pub kept-times : (t : Bool) (a b : Omega) → times (kept t a) b ≡ kept t (times a b)
kept-times true a b = refl
kept-times false a b = nil-times b

abbrev pub Vector : Type 0
Vector = Bits → Omega

-- a matrix on the chosen qubits, by a sum over the chosen bits
abbrev pub act : Matrix → List ℕ → Vector → Vector
act m qs v x = sum (length qs) (λ z. times (m (get qs x) z) (v (write qs z x)))

-- the matrix on all qubits, where all other bits agree as `write` says it
abbrev pub spread : Matrix → List ℕ → Matrix
spread m qs x y = kept (same (write qs (get qs y) x) y) (m (get qs x) (get qs y))

pub spread_acts : (n : ℕ) (m : Matrix) (qs : List ℕ) (v : Vector) (x : Bits) → AreQubits n qs → Long n x → sum n (λ y. times (spread m qs x y) (v y)) ≡ act m qs v x
spread_acts n m qs v x f l =
    sum_ext n _ _ (λ y k. kept-times (same (write qs (get qs y) x) y) (m (get qs x) (get qs y)) (v y))
    ∙ gather n qs x (λ y. times (m (get qs x) (get qs y)) (v y)) f l
    ∙ sum_ext (length qs) _ _ (λ z k. ap (λ c. times (m (get qs x) c) (v (write qs z x))) (get_write n qs z x f l k))
