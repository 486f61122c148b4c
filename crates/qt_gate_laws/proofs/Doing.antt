-- What a list of primitives does to a vector, one after another, and that it does what a matrix does where controls hold.
use Rattle.std.proofs.Common.{◌≡◌, ℕ, zero, suc, ◌+◌, Bool, true, false, List, [], ◌∷◌, ◌++◌, length, refl, sym, ap, subst, ◌∙◌}
use Rattle.qt_ring.specs.declared.omega.Omega.{Omega}
use Rattle.qt_ring.specs.Ring.{times, two_to}
use Rattle.qt_ring.specs.Places.{Bits, get, AreQubits}
use Rattle.qt_ring.specs.Matrix.{Matrix, Operator, product, identity, embedded, twice_u}
use Rattle.qt_ring.proofs.RingLaws.{times_assoc, one-times}
use Rattle.qt_ring.proofs.Bits.{Long, write, write_long}
use Rattle.qt_ring.proofs.Sums.{Vector, sum_ext, act, spread}
use Rattle.qt_ring.proofs.Acts.{Same, act_product, choose, act_identity}
use Rattle.qt_meaning_laws.proofs.Matrices.{two_to-plus}
use Rattle.qt_gate_calls.specs.Units.{circle}
use Rattle.qt_gate_calls.specs.Matrices.{power}
use Rattle.qt_gate_calls.specs.Primitives.{Primitive, Turned, Phased, repeated, picked}
use Rattle.qt_gate_laws.proofs.Controls.{Controls, holds, Apart, conditioned, controls_of, holds_write, conditioned_same, conditioned_ext, spread_conditioned}
use Rattle.qt_gate_laws.proofs.Picked.{embedded_same}

abbrev pub step : Primitive → Vector → Vector
step (Turned ones zeros q a b c) v = conditioned (controls_of ones zeros) 1 (twice_u (circle a) (circle b) (circle c)) (q ∷ []) v
step (Phased ones zeros a) v = conditioned (controls_of ones zeros) 0 (λ x y. circle a) [] v

abbrev pub run : List Primitive → Vector → Vector
run [] v = v
run (p ∷ ps) v = run ps (step p v)

two_to_twice : (h k : ℕ) (a : Omega) → times (two_to h) (times (two_to k) a) ≡ times (two_to (h + k)) a
two_to_twice h k a = sym (times_assoc (two_to h) (two_to k) a) ∙ ap (λ t. times t a) (two_to-plus h k)

chain_by : (n : ℕ) (cs : Controls) (ha hb : ℕ) (a b : Matrix) (qs : List ℕ) (v w : Vector) (x : Bits) (t : Bool) → holds cs x ≡ t → AreQubits n qs → Apart cs qs → Long n x → ((y : Bits) → Long n y → w y ≡ conditioned cs hb b qs v y) → choose t (act a qs w x) (times (two_to ha) (w x)) ≡ choose t (act (product (length qs) a b) qs v x) (times (two_to (ha + hb)) (v x))
chain_by n cs ha hb a b qs v w x true e f p l h =
    sum_ext (length qs) _ _ (λ z k. ap (times (a (get qs x) z)) (h (write qs z x) (write_long n qs z x l) ∙ ap (λ t. choose t (act b qs v (write qs z x)) (times (two_to hb) (v (write qs z x)))) (holds_write cs qs z x p ∙ e)))
    ∙ sym (act_product n a b qs v x f l)
chain_by n cs ha hb a b qs v w x false e f p l h =
    ap (times (two_to ha)) (h x l ∙ ap (λ t. choose t (act b qs v x) (times (two_to hb) (v x))) e)
    ∙ two_to_twice ha hb (v x)

chain : (n : ℕ) (cs : Controls) (ha hb : ℕ) (a b : Matrix) (qs : List ℕ) (v w : Vector) (x : Bits) → AreQubits n qs → Apart cs qs → Long n x → ((y : Bits) → Long n y → w y ≡ conditioned cs hb b qs v y) → conditioned cs ha a qs w x ≡ conditioned cs (ha + hb) (product (length qs) a b) qs v x
chain n cs ha hb a b qs v w x f p l h = chain_by n cs ha hb a b qs v w x (holds cs x) refl f p l h

run-append : (ps rs : List Primitive) (v : Vector) → run (ps ++ rs) v ≡ run rs (run ps v)
run-append [] rs v = refl
run-append (p ∷ ps) rs v = run-append ps rs (step p v)

run-append-at : (ps rs : List Primitive) (v : Vector) (x : Bits) → run (ps ++ rs) v x ≡ run rs (run ps v) x
run-append-at ps rs v x = ap (λ (w : Vector). w x) (run-append ps rs v)

nothing : (cs : Controls) (qs : List ℕ) (v : Vector) (x : Bits) (t : Bool) → v x ≡ choose t (act (identity 0) qs v x) (times (two_to 0) (v x))
nothing cs qs v x true = sym (act_identity 0 0 qs v x ∙ one-times (v x))
nothing cs qs v x false = sym (one-times (v x))

-- a list of primitives does what a matrix does where the controls hold
pub record Does (n : ℕ) (ps : List Primitive) (cs : Controls) (h : ℕ) (m : Matrix) (qs : List ℕ) : Type 0 where
  pub by : (v : Vector) (x : Bits) → Long n x → run ps v x ≡ conditioned cs h m qs v x

pub does_same : (n : ℕ) (ps : List Primitive) (cs : Controls) (h : ℕ) (a b : Matrix) (qs : List ℕ) → Same (length qs) a b → Does n ps cs h a qs → Does n ps cs h b qs
does_same n ps cs h a b qs s d = record { by = λ v x l. d.by v x l ∙ conditioned_same cs h a b qs v x s }

-- first rs with b, then ps with a
pub does-append : (n : ℕ) (ps rs : List Primitive) (cs : Controls) (ha hb : ℕ) (a b : Matrix) (qs : List ℕ) → AreQubits n qs → Apart cs qs → Does n ps cs ha a qs → Does n rs cs hb b qs → Does n (rs ++ ps) cs (ha + hb) (product (length qs) a b) qs
does-append n ps rs cs ha hb a b qs f p d e = record {
  by = λ v x l.
      run-append-at rs ps v x ∙ d.by (run rs v) x l ∙ chain n cs ha hb a b qs v (run rs v) x f p l (λ y k. e.by v y k);
}

pub does_nothing : (n : ℕ) (cs : Controls) (qs : List ℕ) → Does n [] cs 0 (identity 0) qs
does_nothing n cs qs = record { by = λ v x l. nothing cs qs v x (holds cs x) }

pub does_embedded : (n : ℕ) (ps : List Primitive) (cs : Controls) (h : ℕ) (m : Matrix) (qs rs : List ℕ) → AreQubits n qs → AreQubits (length qs) rs → Does n ps cs h m (picked 0 qs rs) → Does n ps cs h (embedded m rs) qs
does_embedded n ps cs h m qs rs f g d = record { by = λ v x l. d.by v x l ∙ spread_conditioned n cs h m qs rs v x f g ∙ conditioned_same cs h (spread m rs) (embedded m rs) qs v x (embedded_same (length qs) m rs) }

pub does_repeat : (n e : ℕ) (ps : List Primitive) (cs : Controls) (g : Operator) (qs : List ℕ) → length qs ≡ g.size → AreQubits n qs → Apart cs qs → Does n ps cs g.halvings g.entries qs → Does n (repeated e ps) cs (power e g).halvings (power e g).entries qs
does_repeat n zero ps cs g qs s f p d = does_nothing n cs qs
does_repeat n (suc e) ps cs g qs s f p d =
    subst (λ (k : ℕ). Does n (repeated e ps ++ ps) cs (g.halvings + (power e g).halvings) (product k g.entries (power e g).entries) qs) s
    (does-append n ps (repeated e ps) cs g.halvings (power e g).halvings g.entries (power e g).entries qs f p d (does_repeat n e ps cs g qs s f p d))

pub step_ext : (n : ℕ) (p : Primitive) (v w : Vector) (x : Bits) → Long n x → ((y : Bits) → Long n y → v y ≡ w y) → step p v x ≡ step p w x
step_ext n (Turned ones zeros q a b c) v w x l e = conditioned_ext n (controls_of ones zeros) 1 (twice_u (circle a) (circle b) (circle c)) (q ∷ []) v w x l e
step_ext n (Phased ones zeros a) v w x l e = conditioned_ext n (controls_of ones zeros) 0 (λ x y. circle a) [] v w x l e

pub run_ext : (n : ℕ) (ps : List Primitive) (v w : Vector) (x : Bits) → Long n x → ((y : Bits) → Long n y → v y ≡ w y) → run ps v x ≡ run ps w x
run_ext n [] v w x l e = e x l
run_ext n (p ∷ ps) v w x l e = run_ext n ps (step p v) (step p w) x l (λ y k. step_ext n p v w y k e)
