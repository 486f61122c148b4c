-- What the operator of one primitive does on its qubits: U or gphase where its controls hold.
use Rattle.std.proofs.Common.{◌≡◌, ℕ, Bool, true, false, not, ◌&&◌, List, [], ◌∷◌, ◌++◌, refl, sym, ap, ◌∙◌}
use Rattle.qt_ring.specs.declared.omega.Omega.{Omega}
use Rattle.qt_ring.specs.Ring.{times, two_to}
use Rattle.qt_ring.specs.Places.{Bits, at, equal_bits}
use Rattle.qt_ring.specs.Matrix.{Operator}
use Rattle.qt_ring.proofs.Sums.{Vector, act}
use Rattle.qt_ring.proofs.Acts.{choose, act_ctrl}
use Rattle.qt_embedding.proofs.Controls.{act_negctrl}
use Rattle.qt_gate_calls.specs.Matrices.{u_matrix, phase_matrix}
use Rattle.qt_gate_calls.specs.Primitives.{Primitive, Turned, Phased}
use Rattle.qt_code.specs.Tail.{under_ones, under_zeros}
use Rattle.qt_gate_laws.specs.Primitives.{operator_of, qubits_of}
use Rattle.qt_gate_laws.proofs.Controls.{all_at, conditioned, controls_of}
use Rattle.qt_gate_laws.proofs.Doing.{step}
use Rattle.qt_gate_laws.proofs.Counting.{count_one}
use Rattle.qt_gate_laws.proofs.Fitting.{no_more}

under_zeros_acts : (zeros : List ℕ) (g : Operator) (qs : List ℕ) (v : Vector) (x : Bits) → act (under_zeros zeros g).entries (zeros ++ qs) v x ≡ choose (all_at false zeros x) (act g.entries qs v x) (times (two_to g.halvings) (v x))
under_zeros_acts [] g qs v x = refl
under_zeros_acts (c ∷ cs) g qs v x =
    act_negctrl (under_zeros cs g).halvings c (under_zeros cs g).entries (cs ++ qs) v x
    ∙ ap (λ h. choose (not (at c x)) (act (under_zeros cs g).entries (cs ++ qs) v x) (times (two_to h) (v x))) (halvings_zeros cs g)
    ∙ ap (λ t. choose (not (at c x)) t (times (two_to g.halvings) (v x))) (under_zeros_acts cs g qs v x)
    ∙ both_off (at c x) (all_at false cs x) (act g.entries qs v x) (times (two_to g.halvings) (v x))
  where
    halvings_zeros : (cs : List ℕ) (g : Operator) → (under_zeros cs g).halvings ≡ g.halvings
    halvings_zeros [] g = refl
    halvings_zeros (c ∷ cs) g = halvings_zeros cs g

    both_off : (b t : Bool) (p q : Omega) → choose (not b) (choose t p q) q ≡ choose (equal_bits false b && t) p q
    both_off true t p q = refl
    both_off false t p q = refl

halvings_under : (ones zeros : List ℕ) (g : Operator) → (under_ones ones (under_zeros zeros g)).halvings ≡ g.halvings
halvings_under [] [] g = refl
halvings_under [] (z ∷ zeros) g = halvings_under [] zeros g
halvings_under (c ∷ ones) zeros g = halvings_under ones zeros g

choose_more : (b s t : Bool) (p q : Omega) → choose b (choose (s && t) p q) q ≡ choose ((equal_bits true b && s) && t) p q
choose_more true s t p q = refl
choose_more false s t p q = refl

under_acts : (ones zeros : List ℕ) (g : Operator) (qs : List ℕ) (v : Vector) (x : Bits) → act (under_ones ones (under_zeros zeros g)).entries (ones ++ (zeros ++ qs)) v x ≡ conditioned (controls_of ones zeros) g.halvings g.entries qs v x
under_acts [] zeros g qs v x = under_zeros_acts zeros g qs v x
under_acts (c ∷ ones) zeros g qs v x =
    act_ctrl 0 (under_ones ones (under_zeros zeros g)).halvings c (under_ones ones (under_zeros zeros g)).entries (ones ++ (zeros ++ qs)) v x
    ∙ ap (λ h. choose (at c x) (act (under_ones ones (under_zeros zeros g)).entries (ones ++ (zeros ++ qs)) v x) (times (two_to h) (v x))) (halvings_under ones zeros g)
    ∙ ap (λ t. choose (at c x) t (times (two_to g.halvings) (v x))) (under_acts ones zeros g qs v x)
    ∙ choose_more (at c x) (all_at true ones x) (all_at false zeros x) (act g.entries qs v x) (times (two_to g.halvings) (v x))

pub primitive_acts : (p : Primitive) (v : Vector) (x : Bits) → act (operator_of p).entries (qubits_of p) v x ≡ step p v x
primitive_acts (Turned ones zeros q a b c) v x = under_acts ones zeros (u_matrix a b c) (q ∷ []) v x
primitive_acts (Phased ones zeros a) v x = ap (λ t. act (under_ones ones (under_zeros zeros (phase_matrix a))).entries (ones ++ t) v x) (sym (no_more zeros)) ∙ under_acts ones zeros (phase_matrix a) [] v x

pub primitive_halvings : (p : Primitive) → (operator_of p).halvings ≡ count_one p
primitive_halvings (Turned ones zeros q a b c) = halvings_under ones zeros (u_matrix a b c)
primitive_halvings (Phased ones zeros a) = halvings_under ones zeros (phase_matrix a)
