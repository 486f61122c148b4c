-- The inverse of a primitive has the conjugate transpose.
use Rattle.std.proofs.Common.{◌≡◌, ℕ, suc, true, false, List, [], ◌∷◌, refl, ap, ◌∙◌}
use Rattle.qt_ring.specs.Matrix.{Matrix, Operator, ctrl, negctrl, adjoint}
use Rattle.qt_ring.proofs.Acts.{Same}
use Rattle.qt_meaning_laws.proofs.Unitary.{long_of}
use Rattle.qt_gate_calls.specs.Units.{KnownUnits, opposite}
use Rattle.qt_gate_calls.specs.Matrices.{inverted, u_matrix, phase_matrix}
use Rattle.qt_gate_calls.specs.Primitives.{Turned, Phased}
use Rattle.qt_code.specs.Tail.{under_ones, under_zeros}
use Rattle.qt_gate_laws.specs.Primitives.{IsSameOperator}
use Rattle.qt_gate_laws.specs.Laws.{InversesAreAdjoint}
use Rattle.qt_gate_laws.proofs.Circle.{conj-circle}
use Rattle.qt_gate_laws.proofs.Both.{adjoint_ctrl, adjoint_negctrl, turn_back}

-- an operator and the adjoint of another, of the same size and halvings
record IsAdjoint (g h : Operator) : Type 0 where
  size : g.size ≡ h.size
  halvings : g.halvings ≡ h.halvings
  entries : Same g.size g.entries (adjoint h.entries)

ctrl_same : (k h i : ℕ) (a b : Matrix) → h ≡ i → Same k a b → Same (suc k) (ctrl h a) (ctrl i b)
ctrl_same k h i a b e s [] y l j = absurd l
ctrl_same k h i a b e s (t ∷ x) [] l j = absurd j
ctrl_same k h i a b e s (true ∷ x) (true ∷ y) l j = s x y l j
ctrl_same k h i a b e s (false ∷ x) (false ∷ y) l j = ap (λ n. ctrl n a (false ∷ x) (false ∷ y)) e
ctrl_same k h i a b e s (true ∷ x) (false ∷ y) l j = refl
ctrl_same k h i a b e s (false ∷ x) (true ∷ y) l j = refl

negctrl_same : (k h i : ℕ) (a b : Matrix) → h ≡ i → Same k a b → Same (suc k) (negctrl h a) (negctrl i b)
negctrl_same k h i a b e s [] y l j = absurd l
negctrl_same k h i a b e s (t ∷ x) [] l j = absurd j
negctrl_same k h i a b e s (true ∷ x) (true ∷ y) l j = ap (λ n. negctrl n a (true ∷ x) (true ∷ y)) e
negctrl_same k h i a b e s (false ∷ x) (false ∷ y) l j = s x y l j
negctrl_same k h i a b e s (true ∷ x) (false ∷ y) l j = refl
negctrl_same k h i a b e s (false ∷ x) (true ∷ y) l j = refl

adjoint_under_zeros : (zeros : List ℕ) (g h : Operator) → IsAdjoint g h → IsAdjoint (under_zeros zeros g) (under_zeros zeros h)
adjoint_under_zeros [] g h s = s
adjoint_under_zeros (q ∷ qs) g h s =
    let r = adjoint_under_zeros qs g h s in
    record {
      size = ap suc r.size;
      halvings = r.halvings;
      entries = λ x y l j.
          negctrl_same (under_zeros qs g).size _ _ _ _ r.halvings r.entries x y l j
          ∙ adjoint_negctrl (under_zeros qs g).size (under_zeros qs h).halvings (under_zeros qs h).entries x y l j;
    }

adjoint_under_ones : (ones : List ℕ) (g h : Operator) → IsAdjoint g h → IsAdjoint (under_ones ones g) (under_ones ones h)
adjoint_under_ones [] g h s = s
adjoint_under_ones (q ∷ qs) g h s =
    let r = adjoint_under_ones qs g h s in
    record {
      size = ap suc r.size;
      halvings = r.halvings;
      entries = λ x y l j.
          ctrl_same (under_ones qs g).size _ _ _ _ r.halvings r.entries x y l j
          ∙ adjoint_ctrl (under_ones qs g).size (under_ones qs h).halvings (under_ones qs h).entries x y l j;
    }

same_by : (g h : Operator) → IsAdjoint g h → IsSameOperator g (inverted h)
same_by g h s = record { size = s.size; halvings = s.halvings; entries = λ x y l j. s.entries x y (long_of g.size x l) (long_of g.size y j) }

u_adjoint : (a b c : KnownUnits) → IsAdjoint (u_matrix (opposite a) (opposite c) (opposite b)) (u_matrix a b c)
u_adjoint a b c = record { size = refl; halvings = refl; entries = turn_back a b c }

phase_adjoint : (a : KnownUnits) → IsAdjoint (phase_matrix (opposite a)) (phase_matrix a)
phase_adjoint a = record { size = refl; halvings = refl; entries = λ x y l j. conj-circle a }

pub inverses_are_adjoint : InversesAreAdjoint
inverses_are_adjoint (Turned ones zeros q a b c) =
    same_by _ _ (adjoint_under_ones ones _ _ (adjoint_under_zeros zeros _ _ (u_adjoint a b c)))
inverses_are_adjoint (Phased ones zeros a) = same_by _ _ (adjoint_under_ones ones _ _ (adjoint_under_zeros zeros _ _ (phase_adjoint a)))
