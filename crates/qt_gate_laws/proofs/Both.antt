-- What a list of primitives does, and what the list of their inverses does: gates, modifiers and calls in bodies.
use Rattle.std.proofs.Common.{◌≡◌, ℕ, zero, suc, ◌+◌, true, false, List, [], ◌∷◌, ◌++◌, length, refl, sym, ap, subst, ◌∙◌, arith, append_assoc}
use Rattle.std.specs.Prelude.{ℤ, pos, negsuc}
use Rattle.qt_ring.specs.declared.omega.Omega.{Omega}
use Rattle.qt_ring.specs.Ring.{one, plus, times, minus, conj, imaginary}
use Rattle.qt_ring.specs.Places.{AreQubits}
use Rattle.qt_ring.specs.Matrix.{Matrix, Operator, product, identity, ctrl, negctrl, adjoint, embedded, twice_u, controlled}
use Rattle.qt_ring.proofs.RingLaws.{times_comm, plus_both, conj_plus, conj-one, conj_times, conj-imaginary, conj-minus, minus_minus, conj-nil}
use Rattle.qt_ring.proofs.Sums.{sum_ext}
use Rattle.qt_ring.proofs.Acts.{Same}
use Rattle.qt_meaning_laws.proofs.Matrices.{adjoint_adjoint, adjoint_identity, adjoint_product, adjoint_embedded}
use Rattle.qt_gate_calls.specs.Units.{KnownUnits, opposite, circle}
use Rattle.qt_gate_calls.specs.Matrices.{controlled_on_zero, inverted, nothing_on, after, power, raised, u_matrix, phase_matrix, on}
use Rattle.qt_gate_calls.specs.Primitives.{Primitive, Turned, Phased, inverse_of, undo, repeated, powered, picked, first, others, with_one, with_zero}
use Rattle.qt_gate_laws.proofs.Circle.{opposite_opposite, conj-circle}
use Rattle.qt_gate_laws.proofs.Controls.{Controls, Apart, conditioned_same, one_qubit, no_qubit, push, push_zero}
use Rattle.qt_gate_laws.proofs.Doing.{Does, does_same, does-append, does_nothing, does_embedded, does_repeat}

-- ---- adjoints of controlled matrices

pub adjoint_ctrl : (k h : ℕ) (m : Matrix) → Same (suc k) (ctrl h (adjoint m)) (adjoint (ctrl h m))
adjoint_ctrl k h m [] y l j = absurd l
adjoint_ctrl k h m (b ∷ x) [] l j = absurd j
adjoint_ctrl k h m (true ∷ x) (true ∷ y) l j = refl
adjoint_ctrl k h m (true ∷ x) (false ∷ y) l j = sym conj-nil
adjoint_ctrl k h m (false ∷ x) (true ∷ y) l j = sym conj-nil
adjoint_ctrl k h m (false ∷ x) (false ∷ y) l j = adjoint_identity k h x y l j

pub adjoint_negctrl : (k h : ℕ) (m : Matrix) → Same (suc k) (negctrl h (adjoint m)) (adjoint (negctrl h m))
adjoint_negctrl k h m [] y l j = absurd l
adjoint_negctrl k h m (b ∷ x) [] l j = absurd j
adjoint_negctrl k h m (false ∷ x) (false ∷ y) l j = refl
adjoint_negctrl k h m (true ∷ x) (false ∷ y) l j = sym conj-nil
adjoint_negctrl k h m (false ∷ x) (true ∷ y) l j = sym conj-nil
adjoint_negctrl k h m (true ∷ x) (true ∷ y) l j = adjoint_identity k h x y l j

-- the inverse of U
pub adjoint_u : (a b c : Omega) → Same 1 (twice_u (conj a) (conj c) (conj b)) (adjoint (twice_u a b c))
adjoint_u a b c [] y l j = absurd l
adjoint_u a b c (s ∷ t ∷ x) y l j = absurd l
adjoint_u a b c (s ∷ []) [] l j = absurd j
adjoint_u a b c (s ∷ []) (t ∷ u ∷ y) l j = absurd j
adjoint_u a b c (false ∷ []) (false ∷ []) l j = sym (conj_plus one a ∙ ap (λ t. plus t (conj a)) conj-one)
adjoint_u a b c (false ∷ []) (true ∷ []) l j =
    sym (conj_times imaginary (times b (plus one (minus a))) ∙ ap (λ t. times t (conj (times b (plus one (minus a))))) conj-imaginary
    ∙ ap (times (minus imaginary)) (conj_times b (plus one (minus a)) ∙ ap (times (conj b)) (conj_plus one (minus a) ∙ plus_both _ _ _ _ conj-one (conj-minus a))))
adjoint_u a b c (true ∷ []) (false ∷ []) l j =
    sym (conj_times (minus imaginary) (times c (plus one (minus a))) ∙ ap (λ t. times t (conj (times c (plus one (minus a))))) (conj-minus imaginary ∙ ap minus conj-imaginary ∙ minus_minus imaginary)
    ∙ ap (times imaginary) (conj_times c (plus one (minus a)) ∙ ap (times (conj c)) (conj_plus one (minus a) ∙ plus_both _ _ _ _ conj-one (conj-minus a))))
adjoint_u a b c (true ∷ []) (true ∷ []) l j =
    sym (conj_times (times b c) (plus one a) ∙ ap (λ t. times t (conj (plus one a))) (conj_times b c ∙ times_comm (conj b) (conj c))
    ∙ ap (times (times (conj c) (conj b))) (conj_plus one a ∙ ap (λ t. plus t (conj a)) conj-one))

pub turn_back : (a b c : KnownUnits) → Same 1 (twice_u (circle (opposite a)) (circle (opposite c)) (circle (opposite b))) (adjoint (twice_u (circle a) (circle b) (circle c)))
turn_back a b c x y l j =
    ap (λ t. twice_u t (circle (opposite c)) (circle (opposite b)) x y) (conj-circle a)
    ∙ ap (λ t. twice_u (conj (circle a)) t (circle (opposite b)) x y) (conj-circle c)
    ∙ ap (λ t. twice_u (conj (circle a)) (conj (circle c)) t x y) (conj-circle b)
    ∙ adjoint_u (circle a) (circle b) (circle c) x y l j

append-nil : (xs : List Primitive) → xs ++ [] ≡ xs
append-nil [] = refl
append-nil (x ∷ xs) = ap (λ t. x ∷ t) (append-nil xs)

pub undo-append : (ps rs : List Primitive) → undo inverse_of (ps ++ rs) ≡ undo inverse_of rs ++ undo inverse_of ps
undo-append [] rs = sym (append-nil (undo inverse_of rs))
undo-append (p ∷ ps) rs = ap (λ t. t ++ (inverse_of p ∷ [])) (undo-append ps rs) ∙ append_assoc (undo inverse_of rs) (undo inverse_of ps) (inverse_of p ∷ [])

inverse_inverse : (p : Primitive) → inverse_of (inverse_of p) ≡ p
inverse_inverse (Turned ones zeros q a b c) = ap (λ t. Turned ones zeros q t (opposite (opposite b)) (opposite (opposite c))) (opposite_opposite a) ∙ ap (λ t. Turned ones zeros q a t (opposite (opposite c))) (opposite_opposite b) ∙ ap (Turned ones zeros q a b) (opposite_opposite c)
inverse_inverse (Phased ones zeros a) = ap (Phased ones zeros) (opposite_opposite a)

pub undo_undo : (ps : List Primitive) → undo inverse_of (undo inverse_of ps) ≡ ps
undo_undo [] = refl
undo_undo (p ∷ ps) = undo-append (undo inverse_of ps) (inverse_of p ∷ []) ∙ ap (λ t. t ∷ undo inverse_of (undo inverse_of ps)) (inverse_inverse p) ∙ ap (λ t. p ∷ t) (undo_undo ps)

flipped : (n : ℕ) (ps : List Primitive) (cs : Controls) (ha hb : ℕ) (m : Matrix) (qs : List ℕ) → Does n ps cs (hb + ha) m qs → Does n ps cs (ha + hb) m qs
flipped n ps cs ha hb m qs d =
    let e : hb + ha ≡ ha + hb = omega arith in
    subst (λ (h : ℕ). Does n ps cs h m qs) e d

does_undo_repeat : (n e : ℕ) (ps : List Primitive) (cs : Controls) (g : Operator) (qs : List ℕ) → length qs ≡ g.size → AreQubits n qs → Apart cs qs → Does n (undo inverse_of ps) cs g.halvings (adjoint g.entries) qs → Does n (undo inverse_of (repeated e ps)) cs (power e g).halvings (adjoint (power e g).entries) qs
does_undo_repeat n zero ps cs g qs s f p d = does_same n [] cs 0 (identity 0) (adjoint (identity 0)) qs (adjoint_identity (length qs) 0) (does_nothing n cs qs)
does_undo_repeat n (suc e) ps cs g qs s f p d =
    subst (λ (k : ℕ). Does n (undo inverse_of (repeated e ps ++ ps)) cs (g.halvings + (power e g).halvings) (adjoint (product k g.entries (power e g).entries)) qs) s
    (subst (λ (ts : List Primitive). Does n ts cs (g.halvings + (power e g).halvings) (adjoint (product (length qs) g.entries (power e g).entries)) qs) (sym (undo-append (repeated e ps) ps))
    (flipped n (undo inverse_of ps ++ undo inverse_of (repeated e ps)) cs g.halvings (power e g).halvings _ qs
    (does_same n _ cs _ (product (length qs) (adjoint (power e g).entries) (adjoint g.entries)) (adjoint (product (length qs) g.entries (power e g).entries)) qs (adjoint_product (length qs) (length qs) g.entries (power e g).entries)
    (does-append n (undo inverse_of (repeated e ps)) (undo inverse_of ps) cs (power e g).halvings g.halvings (adjoint (power e g).entries) (adjoint g.entries) qs f p (does_undo_repeat n e ps cs g qs s f p d) d))))

-- primitives and an operator, and the inverses of both
pub record Both (n : ℕ) (ps : List Primitive) (cs : Controls) (g : Operator) (qs : List ℕ) : Type 0 where
  pub forth : Does n ps cs g.halvings g.entries qs
  pub back : Does n (undo inverse_of ps) cs g.halvings (adjoint g.entries) qs

pub u_both : (n : ℕ) (a b c : KnownUnits) (cs : Controls) (qs : List ℕ) → length qs ≡ 1 → Both n (Turned cs.ones cs.zeros (first 0 qs) a b c ∷ []) cs (u_matrix a b c) qs
u_both n a b c cs qs e = record {
  forth = record { by = λ v x l. one_qubit cs 1 (twice_u (circle a) (circle b) (circle c)) qs v x e };
  back = record { by = λ v x l. one_qubit cs 1 (twice_u (circle (opposite a)) (circle (opposite c)) (circle (opposite b))) qs v x e ∙ conditioned_same cs 1 _ _ qs v x (subst (λ (k : ℕ). Same k (twice_u (circle (opposite a)) (circle (opposite c)) (circle (opposite b))) (adjoint (twice_u (circle a) (circle b) (circle c)))) (sym e) (turn_back a b c)) };
}

pub phase_both : (n : ℕ) (a : KnownUnits) (cs : Controls) (qs : List ℕ) → length qs ≡ 0 → Both n (Phased cs.ones cs.zeros a ∷ []) cs (phase_matrix a) qs
phase_both n a cs qs e = record {
  forth = record { by = λ v x l. no_qubit cs 0 (λ x y. circle a) qs v x e };
  back = record { by = λ v x l. no_qubit cs 0 (λ x y. circle (opposite a)) qs v x e ∙ conditioned_same cs 0 _ _ qs v x (λ y z m j. conj-circle a) };
}

pub ctrl_both : (n k : ℕ) (ps : List Primitive) (cs : Controls) (g : Operator) (qs : List ℕ) → length qs ≡ suc k → Both n ps (with_one (first 0 qs) cs) g (others qs) → Both n ps cs (controlled g) qs
ctrl_both n k ps cs g qs e d = record {
  forth = record { by = λ v x l. d.forth.by v x l ∙ push k cs g.halvings g.entries qs v x e };
  back = record { by = λ v x l. d.back.by v x l ∙ push k cs g.halvings (adjoint g.entries) qs v x e ∙ conditioned_same cs g.halvings _ _ qs v x (subst (λ (j : ℕ). Same j (ctrl g.halvings (adjoint g.entries)) (adjoint (ctrl g.halvings g.entries))) (sym e) (adjoint_ctrl k g.halvings g.entries)) };
}

pub neg_both : (n k : ℕ) (ps : List Primitive) (cs : Controls) (g : Operator) (qs : List ℕ) → length qs ≡ suc k → Both n ps (with_zero (first 0 qs) cs) g (others qs) → Both n ps cs (controlled_on_zero g) qs
neg_both n k ps cs g qs e d = record {
  forth = record { by = λ v x l. d.forth.by v x l ∙ push_zero k cs g.halvings g.entries qs v x e };
  back = record { by = λ v x l. d.back.by v x l ∙ push_zero k cs g.halvings (adjoint g.entries) qs v x e ∙ conditioned_same cs g.halvings _ _ qs v x (subst (λ (j : ℕ). Same j (negctrl g.halvings (adjoint g.entries)) (adjoint (negctrl g.halvings g.entries))) (sym e) (adjoint_negctrl k g.halvings g.entries)) };
}

pub inv_both : (n : ℕ) (ps : List Primitive) (cs : Controls) (g : Operator) (qs : List ℕ) → Both n ps cs g qs → Both n (undo inverse_of ps) cs (inverted g) qs
inv_both n ps cs g qs d = record {
  forth = d.back;
  back = subst (λ (ts : List Primitive). Does n ts cs g.halvings (adjoint (adjoint g.entries)) qs) (sym (undo_undo ps)) (does_same n ps cs g.halvings g.entries (adjoint (adjoint g.entries)) qs (adjoint_adjoint (length qs) g.entries) d.forth);
}

power_both : (n e : ℕ) (ps : List Primitive) (cs : Controls) (g : Operator) (qs : List ℕ) → length qs ≡ g.size → AreQubits n qs → Apart cs qs → Both n ps cs g qs → Both n (repeated e ps) cs (power e g) qs
power_both n e ps cs g qs s f p d = record { forth = does_repeat n e ps cs g qs s f p d.forth; back = does_undo_repeat n e ps cs g qs s f p d.back }

pub raised_both : (n : ℕ) (k : ℤ) (ps : List Primitive) (cs : Controls) (g : Operator) (qs : List ℕ) → length qs ≡ g.size → AreQubits n qs → Apart cs qs → Both n ps cs g qs → Both n (powered inverse_of k ps) cs (raised k g) qs
raised_both n (pos e) ps cs g qs s f p d = power_both n e ps cs g qs s f p d
raised_both n (negsuc e) ps cs g qs s f p d = power_both n (suc e) (undo inverse_of ps) cs (inverted g) qs s f p (inv_both n ps cs g qs d)

pub done_both : (n k : ℕ) (cs : Controls) (qs : List ℕ) → Both n [] cs (nothing_on k) qs
done_both n k cs qs = record {
  forth = does_nothing n cs qs;
  back = does_same n [] cs 0 (identity 0) (adjoint (identity 0)) qs (adjoint_identity (length qs) 0) (does_nothing n cs qs);
}

product_same : (k : ℕ) (a b c : Matrix) → Same k a c → Same k (product k a b) (product k c b)
product_same k a b c s x y l j = sum_ext k _ _ (λ z m. ap (λ t. times t (b z y)) (s x z l m))

-- a call in a body, and the calls after it
pub call_both : (n : ℕ) (ps rs : List Primitive) (cs : Controls) (g r : Operator) (qs ts : List ℕ) → AreQubits n qs → Apart cs qs → AreQubits (length qs) ts → Both n ps cs g (picked 0 qs ts) → Both n rs cs r qs → Both n (ps ++ rs) cs (after (length qs) r (on (length qs) ts g)) qs
call_both n ps rs cs g r qs ts f p h d e = record {
  forth = does-append n rs ps cs r.halvings g.halvings r.entries (embedded g.entries ts) qs f p e.forth (does_embedded n ps cs g.halvings g.entries qs ts f h d.forth);
  back = subst (λ (us : List Primitive). Does n us cs (r.halvings + g.halvings) (adjoint (product (length qs) r.entries (embedded g.entries ts))) qs) (sym (undo-append ps rs))
      (flipped n _ cs r.halvings g.halvings _ qs
      (does_same n _ cs _ (product (length qs) (embedded (adjoint g.entries) ts) (adjoint r.entries)) (adjoint (product (length qs) r.entries (embedded g.entries ts))) qs
      (λ x y l j. product_same (length qs) (embedded (adjoint g.entries) ts) (adjoint r.entries) (adjoint (embedded g.entries ts)) (adjoint_embedded (length qs) g.entries ts) x y l j ∙ adjoint_product (length qs) (length qs) r.entries (embedded g.entries ts) x y l j)
      (does-append n (undo inverse_of ps) (undo inverse_of rs) cs g.halvings r.halvings (embedded (adjoint g.entries) ts) (adjoint r.entries) qs f p (does_embedded n (undo inverse_of ps) cs g.halvings (adjoint g.entries) qs ts f h d.back) e.back)));
}
