-- Matrices on qubits of qubits: a matrix that is embedded in a body, and the body on chosen qubits.
use Rattle.std.proofs.Common.{◌≡◌, ◌≢◌, ℕ, zero, suc, ◌<◌, Bool, List, [], ◌∷◌, length, refl, sym, ap, ◌∙◌, arith}
use Rattle.qt_ring.specs.Ring.{times}
use Rattle.qt_ring.specs.Places.{Bits, at, get, Free, AreQubits}
use Rattle.qt_ring.specs.Matrix.{Matrix, same, sum, embedded}
use Rattle.qt_ring.proofs.Bits.{Long, put, write, put_put_same, put_long, get_long, get_write, write_get, put_write_free}
use Rattle.qt_ring.proofs.Sums.{Vector, sum_ext, gather, kept-times, act, spread}
use Rattle.qt_ring.proofs.Acts.{Same}
use Rattle.qt_ring.proofs.Products.{embedded_is}
use Rattle.qt_gate_calls.specs.Primitives.{nth_or, picked}

-- qubits of qubits
pub length-picked : (qs ps : List ℕ) → length (picked 0 qs ps) ≡ length ps
length-picked qs [] = refl
length-picked qs (p ∷ ps) = ap suc (length-picked qs ps)

at_get : (p : ℕ) (qs : List ℕ) (x : Bits) → p < length qs → at p (get qs x) ≡ at (nth_or 0 p qs) x
at_get p [] x h = absurd (omega arith)
at_get zero (q ∷ qs) x h = refl
at_get (suc p) (q ∷ qs) x h = at_get p qs x (omega arith)

pub get_get : (qs ps : List ℕ) (x : Bits) → AreQubits (length qs) ps → get ps (get qs x) ≡ get (picked 0 qs ps) x
get_get qs [] x f = refl
get_get qs (p ∷ ps) x f = ap (λ b. b ∷ get ps (get qs x)) (at_get p qs x f.0) ∙ ap (λ y. at (nth_or 0 p qs) x ∷ y) (get_get qs ps x f.2)

nth_lt : (n p : ℕ) (qs : List ℕ) → AreQubits n qs → p < length qs → nth_or 0 p qs < n
nth_lt n p [] f h = absurd (omega arith)
nth_lt n zero (q ∷ qs) f h = f.0
nth_lt n (suc p) (q ∷ qs) f h = nth_lt n p qs f.2 (omega arith)

free_nth : (q p : ℕ) (qs : List ℕ) → Free q qs → p < length qs → q ≢ nth_or 0 p qs
free_nth q p [] f h = absurd (omega arith)
free_nth q zero (r ∷ qs) f h = f.0
free_nth q (suc p) (r ∷ qs) f h = free_nth q p qs f.1 (omega arith)

nth_differs : (n p r : ℕ) (qs : List ℕ) → AreQubits n qs → p < length qs → r < length qs → p ≢ r → nth_or 0 p qs ≢ nth_or 0 r qs
nth_differs n p r [] f h k e = absurd (omega arith)
nth_differs n zero zero (q ∷ qs) f h k e = absurd (e refl)
nth_differs n zero (suc r) (q ∷ qs) f h k e = free_nth q r qs f.1 (omega arith)
nth_differs n (suc p) zero (q ∷ qs) f h k e = λ s. free_nth q p qs f.1 (omega arith) (sym s)
nth_differs n (suc p) (suc r) (q ∷ qs) f h k e = nth_differs n p r qs f.2 (omega arith) (omega arith) (λ s. e (ap suc s))

picked_free : (n p : ℕ) (qs ps : List ℕ) → AreQubits n qs → AreQubits (length qs) ps → p < length qs → Free p ps → Free (nth_or 0 p qs) (picked 0 qs ps)
picked_free n p qs [] f g h k = tt
picked_free n p qs (r ∷ ps) f g h k = (nth_differs n p r qs f h g.0 k.0, picked_free n p qs ps f g.2 h k.1)

pub picked_fits : (n : ℕ) (qs ps : List ℕ) → AreQubits n qs → AreQubits (length qs) ps → AreQubits n (picked 0 qs ps)
picked_fits n qs [] f g = tt
picked_fits n qs (p ∷ ps) f g = (nth_lt n p qs f g.0, picked_free n p qs ps f g.2 g.0 g.1, picked_fits n qs ps f g.2)

pub picked_frees : (q : ℕ) (qs ps : List ℕ) → Free q qs → AreQubits (length qs) ps → Free q (picked 0 qs ps)
picked_frees q qs [] f g = tt
picked_frees q qs (p ∷ ps) f g = (free_nth q p qs f g.0, picked_frees q qs ps f g.2)

write_put : (n p : ℕ) (b : Bool) (qs : List ℕ) (y x : Bits) → AreQubits n qs → Long (length qs) y → p < length qs → write qs (put p b y) x ≡ put (nth_or 0 p qs) b (write qs y x)
write_put n p b [] y x f l h = absurd (omega arith)
write_put n p b (q ∷ qs) [] x f l h = absurd l
write_put n zero b (q ∷ qs) (c ∷ y) x f l h = sym (put_write_free q b qs y (put q c x) f.1 ∙ ap (write qs y) (put_put_same q b c x))
write_put n (suc p) b (q ∷ qs) (c ∷ y) x f l h = write_put n p b qs y (put q c x) f.2 l (omega arith)

write_inner : (n : ℕ) (qs ps : List ℕ) (w y x : Bits) → AreQubits n qs → AreQubits (length qs) ps → Long (length qs) y → write qs (write ps w y) x ≡ write (picked 0 qs ps) w (write qs y x)
write_inner n qs [] w y x f g l = refl
write_inner n qs (p ∷ ps) [] y x f g l = refl
write_inner n qs (p ∷ ps) (b ∷ w) y x f g l =
    write_inner n qs ps w (put p b y) x f g.2 (put_long (length qs) p b y l)
    ∙ ap (write (picked 0 qs ps) w) (write_put n p b qs y x f l g.0)

pub act_spread : (n : ℕ) (m : Matrix) (qs ps : List ℕ) (v : Vector) (x : Bits) → AreQubits n qs → AreQubits (length qs) ps → act (spread m ps) qs v x ≡ act m (picked 0 qs ps) v x
act_spread n m qs ps v x f g =
    sum_ext (length qs) _ _ (λ z k. kept-times (same (write ps (get ps z) (get qs x)) z) (m (get ps (get qs x)) (get ps z)) (v (write qs z x)))
    ∙ gather (length qs) ps (get qs x) (λ z. times (m (get ps (get qs x)) (get ps z)) (v (write qs z x))) g (get_long qs x)
    ∙ sum_ext (length ps) _ _ (λ w k.
    ap (λ c. times (m (get ps (get qs x)) c) (v (write qs (write ps w (get qs x)) x))) (get_write (length qs) ps w (get qs x) g (get_long qs x) k)
    ∙ ap (λ c. times (m c w) (v (write qs (write ps w (get qs x)) x))) (get_get qs ps x g)
    ∙ ap (λ y. times (m (get (picked 0 qs ps) x) w) (v y)) (write_inner n qs ps w (get qs x) x f g (get_long qs x) ∙ ap (write (picked 0 qs ps) w) (write_get qs x)))
    ∙ ap (λ k. sum k (λ w. times (m (get (picked 0 qs ps) x) w) (v (write (picked 0 qs ps) w x)))) (sym (length-picked qs ps))

pub embedded_same : (k : ℕ) (m : Matrix) (ps : List ℕ) → Same k (spread m ps) (embedded m ps)
embedded_same k m ps x y l j = sym (embedded_is m ps x y)
