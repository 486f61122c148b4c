-- Controls and qubits that are all different stay so, and each primitive is on different qubits.
use Rattle.std.proofs.Common.{◌≡◌, ◌≢◌, ℕ, zero, suc, ◌<◌, List, [], ◌∷◌, ◌++◌, length, refl, sym, ap, subst, arith, append_assoc}
use Rattle.std.specs.Prelude.{ℤ, pos, negsuc}
use Rattle.qt_ring.specs.Places.{Free, AreQubits}
use Rattle.qt_gate_calls.specs.Units.{KnownUnits}
use Rattle.qt_gate_calls.specs.Primitives.{Primitive, Turned, Phased, inverse_of, undo, repeated, powered, first, others, with_one, with_zero}
use Rattle.qt_gate_laws.specs.Primitives.{qubits_of, HaveQubits}
use Rattle.qt_gate_laws.proofs.Controls.{Controls, Frees, Apart, apart_others, apart_one, apart_zero}

frees-append : (xs ys qs : List ℕ) → Frees xs qs → Frees ys qs → Frees (xs ++ ys) qs
frees-append [] ys qs f g = g
frees-append (x ∷ xs) ys qs f g = (f.0, frees-append xs ys qs f.1 g)

free-append : (r : ℕ) (xs ys : List ℕ) (q : ℕ) → Free r (xs ++ ys) → r ≢ q → Free r (xs ++ (q ∷ ys))
free-append r [] ys q f n = (n, f)
free-append r (x ∷ xs) ys q f n = (f.0, free-append r xs ys q f.1 n)

insert_fits : (n : ℕ) (xs ys : List ℕ) (q : ℕ) → AreQubits n (xs ++ ys) → q < n → Frees xs (q ∷ []) → Free q ys → AreQubits n (xs ++ (q ∷ ys))
insert_fits n [] ys q f h a b = (h, b, f)
insert_fits n (x ∷ xs) ys q f h a b = (f.0, free-append x xs ys q f.1 a.0.0, insert_fits n xs ys q f.2 h a.1 b)

pub no_more : (xs : List ℕ) → xs ++ [] ≡ xs
no_more [] = refl
no_more (x ∷ xs) = ap (λ t. x ∷ t) (no_more xs)

frees_first : (cs : List ℕ) (q : ℕ) (qs : List ℕ) → Frees cs (q ∷ qs) → Frees cs (q ∷ [])
frees_first [] q qs a = tt
frees_first (c ∷ cs) q qs a = ((a.0.0, tt), frees_first cs q qs a.1)

free_from : (cs : List ℕ) (q : ℕ) (qs : List ℕ) → Frees cs (q ∷ qs) → Free q cs
free_from [] q qs a = tt
free_from (c ∷ cs) q qs a = (λ e. a.0.0 (sym e), free_from cs q qs a.1)

-- controls and own qubits, all different
pub record Ready (n : ℕ) (cs : Controls) (qs : List ℕ) : Type 0 where
  pub controls : AreQubits n (cs.ones ++ cs.zeros)
  pub apart : Apart cs qs
  pub own : AreQubits n qs

last_fits : (n : ℕ) (cs : Controls) (q : ℕ) (qs : List ℕ) → Ready n cs (q ∷ qs) → AreQubits n (cs.ones ++ (cs.zeros ++ (q ∷ [])))
last_fits n cs q qs r =
    subst (AreQubits n) (append_assoc cs.ones cs.zeros (q ∷ []))
    (insert_fits n (cs.ones ++ cs.zeros) [] q (subst (AreQubits n) (sym (no_more (cs.ones ++ cs.zeros))) r.controls) r.own.0
    (frees-append cs.ones cs.zeros (q ∷ []) (frees_first cs.ones q qs r.apart.0) (frees_first cs.zeros q qs r.apart.1)) tt)

pub ready_one : (n k : ℕ) (cs : Controls) (qs : List ℕ) → length qs ≡ suc k → Ready n cs qs → Ready n (with_one (first 0 qs) cs) (others qs)
ready_one n k cs [] e r = absurd (omega arith)
ready_one n k cs (q ∷ qs) e r = record {
  controls = subst (AreQubits n) (sym (append_assoc cs.ones (q ∷ []) cs.zeros)) (insert_fits n cs.ones cs.zeros q r.controls r.own.0 (frees_first cs.ones q qs r.apart.0) (free_from cs.zeros q qs r.apart.1));
  apart = apart_one cs q qs (apart_others cs (q ∷ qs) r.apart) r.own.1;
  own = r.own.2;
}

pub ready_zero : (n k : ℕ) (cs : Controls) (qs : List ℕ) → length qs ≡ suc k → Ready n cs qs → Ready n (with_zero (first 0 qs) cs) (others qs)
ready_zero n k cs [] e r = absurd (omega arith)
ready_zero n k cs (q ∷ qs) e r = record {
  controls = last_fits n cs q qs r;
  apart = apart_zero cs q qs (apart_others cs (q ∷ qs) r.apart) r.own.1;
  own = r.own.2;
}

pub u_fits : (n : ℕ) (a b c : KnownUnits) (cs : Controls) (qs : List ℕ) → length qs ≡ 1 → Ready n cs qs → HaveQubits n (Turned cs.ones cs.zeros (first 0 qs) a b c ∷ [])
u_fits n a b c cs [] e r = absurd (omega arith)
u_fits n a b c cs (q ∷ []) e r = (last_fits n cs q [] r, tt)
u_fits n a b c cs (q ∷ s ∷ qs) e r = absurd (omega arith)

pub fit-append : (n : ℕ) (ps rs : List Primitive) → HaveQubits n ps → HaveQubits n rs → HaveQubits n (ps ++ rs)
fit-append n [] rs f g = g
fit-append n (p ∷ ps) rs f g = (f.0, fit-append n ps rs f.1 g)

inverse_fits : (n : ℕ) (p : Primitive) → AreQubits n (qubits_of p) → AreQubits n (qubits_of (inverse_of p))
inverse_fits n (Turned ones zeros q a b c) f = f
inverse_fits n (Phased ones zeros a) f = f

pub undo_fits : (n : ℕ) (ps : List Primitive) → HaveQubits n ps → HaveQubits n (undo inverse_of ps)
undo_fits n [] f = tt
undo_fits n (p ∷ ps) f = fit-append n (undo inverse_of ps) (inverse_of p ∷ []) (undo_fits n ps f.1) (inverse_fits n p f.0, tt)

repeat_fits : (n e : ℕ) (ps : List Primitive) → HaveQubits n ps → HaveQubits n (repeated e ps)
repeat_fits n zero ps f = tt
repeat_fits n (suc e) ps f = fit-append n (repeated e ps) ps (repeat_fits n e ps f) f

pub powered_fits : (n : ℕ) (k : ℤ) (ps : List Primitive) → HaveQubits n ps → HaveQubits n (powered inverse_of k ps)
powered_fits n (pos e) ps f = repeat_fits n e ps f
powered_fits n (negsuc e) ps f = repeat_fits n (suc e) (undo inverse_of ps) (undo_fits n ps f)
