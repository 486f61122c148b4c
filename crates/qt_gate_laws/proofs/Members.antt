-- The qubits of the primitives of a call are of any kind of which the qubits of the call are.
use Rattle.std.proofs.Common.{◌≡◌, ℕ, zero, suc, ◌<◌, List, [], ◌∷◌, ◌++◌, length, arith}
use Rattle.std.specs.Prelude.{ℤ, pos, negsuc}
use Rattle.std.specs.List.{All}
use Rattle.qt_ring.specs.Places.{AreQubits}
use Rattle.qt_gate_calls.specs.Units.{KnownUnits}
use Rattle.qt_gate_calls.specs.Primitives.{Primitive, Turned, Phased, inverse_of, undo, repeated, powered, nth_or, picked, first, others}
use Rattle.qt_gate_laws.specs.Primitives.{qubits_of, AreOn}
use Rattle.qt_gate_laws.proofs.Controls.{Controls}
use Rattle.qt_meaning_laws.proofs.Runs.{all_first, all_later}
use Rattle.qt_meaning_laws.proofs.Named.{all_none, all_more}

-- ---- lists

pub all_both : {A : Type 0} (Q : A → Type 0) (xs ys : List A) → All Q xs → All Q ys → All Q (xs ++ ys)
all_both Q [] ys h g = g
all_both Q (x ∷ xs) ys h g = all_more Q x (xs ++ ys) (all_first Q x xs h) (all_both Q xs ys (all_later Q x xs h) g)

all_one : (Q : ℕ → Type 0) (q : ℕ) → Q q → All Q (q ∷ [])
all_one Q q h = all_more Q q [] h (all_none Q)

nth_is : (Q : ℕ → Type 0) (i : ℕ) (qs : List ℕ) → All Q qs → i < length qs → Q (nth_or 0 i qs)
nth_is Q i [] h l = absurd (omega arith)
nth_is Q zero (q ∷ qs) h l = all_first Q q qs h
nth_is Q (suc i) (q ∷ qs) h l = nth_is Q i qs (all_later Q q qs h) (omega arith)

pub picked_are : (Q : ℕ → Type 0) (qs ps : List ℕ) → All Q qs → AreQubits (length qs) ps → All Q (picked 0 qs ps)
picked_are Q qs [] h f = all_none Q
picked_are Q qs (p ∷ ps) h f = all_more Q (nth_or 0 p qs) (picked 0 qs ps) (nth_is Q p qs h f.0) (picked_are Q qs ps h f.2)

pub others_are : (Q : ℕ → Type 0) (qs : List ℕ) → All Q qs → All Q (others qs)
others_are Q [] h = h
others_are Q (q ∷ qs) h = all_later Q q qs h

-- one control more
pub more_are : (Q : ℕ → Type 0) (k : ℕ) (cs qs : List ℕ) → length qs ≡ suc k → All Q cs → All Q qs → All Q (cs ++ (first 0 qs ∷ []))
more_are Q k cs qs e h g = all_both Q cs (first 0 qs ∷ []) h (all_one Q (first 0 qs) (nth_is Q 0 qs g (omega arith)))

-- ---- primitives

pub u_on : (Q : ℕ → Type 0) (a b c : KnownUnits) (cs : Controls) (qs : List ℕ) → length qs ≡ 1 → All Q cs.ones → All Q cs.zeros → All Q qs → AreOn Q (Turned cs.ones cs.zeros (first 0 qs) a b c ∷ [])
u_on Q a b c cs qs e h g i =
    (all_both Q cs.ones _ h (all_both Q cs.zeros _ g (all_one Q (first 0 qs) (nth_is Q 0 qs i (omega arith)))), tt)

pub phase_on : (Q : ℕ → Type 0) (a : KnownUnits) (cs : Controls) → All Q cs.ones → All Q cs.zeros → AreOn Q (Phased cs.ones cs.zeros a ∷ [])
phase_on Q a cs h g = (all_both Q cs.ones cs.zeros h g, tt)

pub on-append : (Q : ℕ → Type 0) (ps rs : List Primitive) → AreOn Q ps → AreOn Q rs → AreOn Q (ps ++ rs)
on-append Q [] rs h g = g
on-append Q (p ∷ ps) rs h g = (h.0, on-append Q ps rs h.1 g)

inverse_on : (Q : ℕ → Type 0) (p : Primitive) → All Q (qubits_of p) → All Q (qubits_of (inverse_of p))
inverse_on Q (Turned ones zeros q a b c) h = h
inverse_on Q (Phased ones zeros a) h = h

pub undo_on : (Q : ℕ → Type 0) (ps : List Primitive) → AreOn Q ps → AreOn Q (undo inverse_of ps)
undo_on Q [] h = tt
undo_on Q (p ∷ ps) h = on-append Q (undo inverse_of ps) (inverse_of p ∷ []) (undo_on Q ps h.1) (inverse_on Q p h.0, tt)

repeated_on : (Q : ℕ → Type 0) (e : ℕ) (ps : List Primitive) → AreOn Q ps → AreOn Q (repeated e ps)
repeated_on Q zero ps h = tt
repeated_on Q (suc e) ps h = on-append Q (repeated e ps) ps (repeated_on Q e ps h) h

pub powered_on : (Q : ℕ → Type 0) (k : ℤ) (ps : List Primitive) → AreOn Q ps → AreOn Q (powered inverse_of k ps)
powered_on Q (pos e) ps h = repeated_on Q e ps h
powered_on Q (negsuc e) ps h = repeated_on Q (suc e) (undo inverse_of ps) (undo_on Q ps h)
