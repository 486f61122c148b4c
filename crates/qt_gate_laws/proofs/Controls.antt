-- A matrix on chosen qubits where controls hold, and elsewhere the halvings alone.
use Rattle.std.proofs.Common.{◌≡◌, ℕ, suc, Bool, true, false, not, ◌&&◌, List, [], ◌∷◌, ◌++◌, length, refl, sym, ap, ◌∙◌, arith}
use Rattle.qt_ring.specs.declared.omega.Omega.{Omega}
use Rattle.qt_ring.specs.Ring.{times, two_to}
use Rattle.qt_ring.specs.Places.{Bits, at, equal_bits, Free, AreQubits}
use Rattle.qt_ring.specs.Matrix.{Matrix, ctrl, negctrl}
use Rattle.qt_ring.proofs.Bits.{Long, write, at_write_free}
use Rattle.qt_ring.proofs.Sums.{Vector, act, spread}
use Rattle.qt_ring.proofs.Acts.{Same, act_same, act_ext, choose, act_ctrl}
use Rattle.qt_embedding.proofs.Controls.{act_negctrl}
use Rattle.qt_gate_calls.specs.Primitives.{ControlsOf, picked, first, others, with_one, with_zero}
use Rattle.qt_gate_laws.proofs.Picked.{picked_frees, act_spread}

abbrev pub Controls : Type 0
Controls = ControlsOf ℕ

-- all these qubits have the value b
abbrev pub all_at : Bool → List ℕ → Bits → Bool
all_at b [] x = true
all_at b (c ∷ cs) x = equal_bits b (at c x) && all_at b cs x

abbrev pub holds : Controls → Bits → Bool
holds cs x = all_at true cs.ones x && all_at false cs.zeros x

abbrev pub Frees : List ℕ → List ℕ → Type 0
Frees [] qs = Unit {0}
Frees (c ∷ cs) qs = Free c qs × Frees cs qs

-- the controls are none of the qubits
abbrev pub Apart : Controls → List ℕ → Type 0
Apart cs qs = Frees cs.ones qs × Frees cs.zeros qs

-- a matrix where the controls hold
abbrev pub conditioned : Controls → ℕ → Matrix → List ℕ → Vector → Vector
conditioned cs h m qs v x = choose (holds cs x) (act m qs v x) (times (two_to h) (v x))

abbrev pub controls_of : List ℕ → List ℕ → Controls
controls_of ones zeros = record { ones = ones; zeros = zeros }

all_at_write : (b : Bool) (cs qs : List ℕ) (z x : Bits) → Frees cs qs → all_at b cs (write qs z x) ≡ all_at b cs x
all_at_write b [] qs z x a = refl
all_at_write b (c ∷ cs) qs z x a =
    ap (λ t. equal_bits b t && all_at b cs (write qs z x)) (at_write_free c qs z x a.0) ∙ ap (λ t. equal_bits b (at c x) && t) (all_at_write b cs qs z x a.1)

pub holds_write : (cs : Controls) (qs : List ℕ) (z x : Bits) → Apart cs qs → holds cs (write qs z x) ≡ holds cs x
holds_write cs qs z x a =
    ap (λ t. t && all_at false cs.zeros (write qs z x)) (all_at_write true cs.ones qs z x a.0)
    ∙ ap (λ t. all_at true cs.ones x && t) (all_at_write false cs.zeros qs z x a.1)

frees_picked : (cs qs ps : List ℕ) → Frees cs qs → AreQubits (length qs) ps → Frees cs (picked 0 qs ps)
frees_picked [] qs ps a f = tt
frees_picked (c ∷ cs) qs ps a f = (picked_frees c qs ps a.0 f, frees_picked cs qs ps a.1 f)

pub apart_picked : (cs : Controls) (qs ps : List ℕ) → Apart cs qs → AreQubits (length qs) ps → Apart cs (picked 0 qs ps)
apart_picked cs qs ps a f = (frees_picked cs.ones qs ps a.0 f, frees_picked cs.zeros qs ps a.1 f)

-- ---- on qubits of qubits

pub conditioned_same : (cs : Controls) (h : ℕ) (a b : Matrix) (qs : List ℕ) (v : Vector) (x : Bits) → Same (length qs) a b → conditioned cs h a qs v x ≡ conditioned cs h b qs v x
conditioned_same cs h a b qs v x s = ap (λ t. choose (holds cs x) t (times (two_to h) (v x))) (act_same a b qs v x s)

pub spread_conditioned : (n : ℕ) (cs : Controls) (h : ℕ) (m : Matrix) (qs ps : List ℕ) (v : Vector) (x : Bits) → AreQubits n qs → AreQubits (length qs) ps → conditioned cs h m (picked 0 qs ps) v x ≡ conditioned cs h (spread m ps) qs v x
spread_conditioned n cs h m qs ps v x f g = ap (λ t. choose (holds cs x) t (times (two_to h) (v x))) (sym (act_spread n m qs ps v x f g))

-- one more control
all_at_more : (b : Bool) (cs : List ℕ) (q : ℕ) (x : Bits) → all_at b (cs ++ (q ∷ [])) x ≡ (all_at b cs x && equal_bits b (at q x))
all_at_more b [] q x = true_after (equal_bits b (at q x))
  where
    true_after : (t : Bool) → (t && true) ≡ (true && t)
    true_after true = refl
    true_after false = refl
all_at_more b (c ∷ cs) q x = ap (λ t. equal_bits b (at c x) && t) (all_at_more b cs q x) ∙ and_assoc (equal_bits b (at c x)) (all_at b cs x) (equal_bits b (at q x))
  where
    and_assoc : (s t u : Bool) → (s && (t && u)) ≡ ((s && t) && u)
    and_assoc true t u = refl
    and_assoc false t u = refl

push_by : (s t b : Bool) (p q : Omega) → choose ((s && equal_bits true b) && t) p q ≡ choose (s && t) (choose b p q) q
push_by false t b p q = refl
push_by true true true p q = refl
push_by true false true p q = refl
push_by true true false p q = refl
push_by true false false p q = refl

push_zero_by : (s t b : Bool) (p q : Omega) → choose (s && (t && equal_bits false b)) p q ≡ choose (s && t) (choose (not b) p q) q
push_zero_by false t b p q = refl
push_zero_by true true true p q = refl
push_zero_by true false true p q = refl
push_zero_by true true false p q = refl
push_zero_by true false false p q = refl

pub push : (k : ℕ) (cs : Controls) (h : ℕ) (m : Matrix) (qs : List ℕ) (v : Vector) (x : Bits) → length qs ≡ suc k → conditioned (with_one (first 0 qs) cs) h m (others qs) v x ≡ conditioned cs h (ctrl h m) qs v x
push k cs h m [] v x e = absurd (omega arith)
push k cs h m (q ∷ qs) v x e =
    ap (λ t. choose (t && all_at false cs.zeros x) (act m qs v x) (times (two_to h) (v x))) (all_at_more true cs.ones q x)
    ∙ push_by (all_at true cs.ones x) (all_at false cs.zeros x) (at q x) (act m qs v x) (times (two_to h) (v x))
    ∙ ap (λ t. choose (holds cs x) t (times (two_to h) (v x))) (sym (act_ctrl 0 h q m qs v x))

pub push_zero : (k : ℕ) (cs : Controls) (h : ℕ) (m : Matrix) (qs : List ℕ) (v : Vector) (x : Bits) → length qs ≡ suc k → conditioned (with_zero (first 0 qs) cs) h m (others qs) v x ≡ conditioned cs h (negctrl h m) qs v x
push_zero k cs h m [] v x e = absurd (omega arith)
push_zero k cs h m (q ∷ qs) v x e =
    ap (λ t. choose (all_at true cs.ones x && t) (act m qs v x) (times (two_to h) (v x))) (all_at_more false cs.zeros q x)
    ∙ push_zero_by (all_at true cs.ones x) (all_at false cs.zeros x) (at q x) (act m qs v x) (times (two_to h) (v x))
    ∙ ap (λ t. choose (holds cs x) t (times (two_to h) (v x))) (sym (act_negctrl h q m qs v x))

pub length_others : (k : ℕ) (qs : List ℕ) → length qs ≡ suc k → length (others qs) ≡ k
length_others k [] e = absurd (omega arith)
length_others k (q ∷ qs) e = omega arith

pub fits_others : (n : ℕ) (qs : List ℕ) → AreQubits n qs → AreQubits n (others qs)
fits_others n [] f = tt
fits_others n (q ∷ qs) f = f.2

frees_others : (cs qs : List ℕ) → Frees cs qs → Frees cs (others qs)
frees_others [] qs a = tt
frees_others (c ∷ cs) [] a = a
frees_others (c ∷ cs) (q ∷ qs) a = (a.0.1, frees_others cs (q ∷ qs) a.1)

pub apart_others : (cs : Controls) (qs : List ℕ) → Apart cs qs → Apart cs (others qs)
apart_others cs qs a = (frees_others cs.ones qs a.0, frees_others cs.zeros qs a.1)

pub free_first : (n : ℕ) (qs : List ℕ) → AreQubits n qs → Free (first 0 qs) (others qs)
free_first n [] f = tt
free_first n (q ∷ qs) f = f.1

frees_more : (cs : List ℕ) (q : ℕ) (qs : List ℕ) → Frees cs qs → Free q qs → Frees (cs ++ (q ∷ [])) qs
frees_more [] q qs a f = (f, tt)
frees_more (c ∷ cs) q qs a f = (a.0, frees_more cs q qs a.1 f)

pub apart_one : (cs : Controls) (q : ℕ) (qs : List ℕ) → Apart cs qs → Free q qs → Apart (with_one q cs) qs
apart_one cs q qs a f = (frees_more cs.ones q qs a.0 f, a.1)

pub apart_zero : (cs : Controls) (q : ℕ) (qs : List ℕ) → Apart cs qs → Free q qs → Apart (with_zero q cs) qs
apart_zero cs q qs a f = (a.0, frees_more cs.zeros q qs a.1 f)

pub conditioned_ext : (n : ℕ) (cs : Controls) (h : ℕ) (m : Matrix) (qs : List ℕ) (v w : Vector) (x : Bits) → Long n x → ((y : Bits) → Long n y → v y ≡ w y) → conditioned cs h m qs v x ≡ conditioned cs h m qs w x
conditioned_ext n cs h m qs v w x l e =
    ap (λ t. choose (holds cs x) t (times (two_to h) (v x))) (act_ext n m qs v w x l e)
    ∙ ap (λ t. choose (holds cs x) (act m qs w x) (times (two_to h) t)) (e x l)

pub one_qubit : (cs : Controls) (h : ℕ) (m : Matrix) (qs : List ℕ) (v : Vector) (x : Bits) → length qs ≡ 1 → conditioned cs h m (first 0 qs ∷ []) v x ≡ conditioned cs h m qs v x
one_qubit cs h m [] v x e = absurd (omega arith)
one_qubit cs h m (q ∷ []) v x e = refl
one_qubit cs h m (q ∷ r ∷ qs) v x e = absurd (omega arith)

pub no_qubit : (cs : Controls) (h : ℕ) (m : Matrix) (qs : List ℕ) (v : Vector) (x : Bits) → length qs ≡ 0 → conditioned cs h m [] v x ≡ conditioned cs h m qs v x
no_qubit cs h m [] v x e = refl
no_qubit cs h m (q ∷ qs) v x e = absurd (omega arith)
