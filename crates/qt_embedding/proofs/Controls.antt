-- An operator under controls acts where they all hold.
use Rattle.std.proofs.Common.{◌≡◌, ℕ, Bool, true, false, ◌&&◌, not, List, [], ◌∷◌, length, refl, sym, ap, ◌∙◌}
use Rattle.qt_ring.specs.declared.omega.Omega.{Omega}
use Rattle.qt_ring.specs.Ring.{nil, plus, times, two_to}
use Rattle.qt_ring.specs.Places.{Bits, at, get}
use Rattle.qt_ring.specs.Matrix.{Matrix, sum, identity, negctrl, Operator}
use Rattle.qt_ring.proofs.RingLaws.{plus-nil, nil-plus, nil-times, plus_both}
use Rattle.qt_ring.proofs.Bits.{write, put, put_at}
use Rattle.qt_ring.proofs.Sums.{Vector, sum_ext, sum-nil, act}
use Rattle.qt_ring.proofs.Acts.{choose, act_ctrl, act_identity}
use Rattle.qt_embedding.specs.Controls.{Control, under, under_all, qubits_under}
use Rattle.qt_embedding.proofs.Masks.{agrees, holds}

none : (k : ℕ) (f : Bits → Omega) → sum k (λ z. times nil (f z)) ≡ nil
none k f = sum_ext k _ _ (λ z l. nil-times (f z)) ∙ sum-nil k

negctrl_by : (h c : ℕ) (m : Matrix) (qs : List ℕ) (v : Vector) (x : Bits) (b : Bool) → at c x ≡ b → plus (sum (length qs) (λ z. times (negctrl h m (b ∷ get qs x) (false ∷ z)) (v (write qs z (put c false x))))) (sum (length qs) (λ z. times (negctrl h m (b ∷ get qs x) (true ∷ z)) (v (write qs z (put c true x))))) ≡ choose (not b) (act m qs v x) (times (two_to h) (v x))
negctrl_by h c m qs v x false e =
    plus_both _ _ _ _ (ap (λ y. sum (length qs) (λ z. times (m (get qs x) z) (v (write qs z y)))) (ap (λ b. put c b x) (sym e) ∙ put_at c x)) (none (length qs) (λ z. v (write qs z (put c true x))))
    ∙ plus-nil _
negctrl_by h c m qs v x true e =
    plus_both _ _ _ _ (none (length qs) (λ z. v (write qs z (put c false x)))) (ap (λ y. sum (length qs) (λ z. times (identity h (get qs x) z) (v (write qs z y)))) (ap (λ b. put c b x) (sym e) ∙ put_at c x) ∙ act_identity 0 h qs v x)
    ∙ nil-plus _

-- a matrix under a control that asks for 0 acts where it is 0
pub act_negctrl : (h c : ℕ) (m : Matrix) (qs : List ℕ) (v : Vector) (x : Bits) → act (negctrl h m) (c ∷ qs) v x ≡ choose (not (at c x)) (act m qs v x) (times (two_to h) (v x))
act_negctrl h c m qs v x = negctrl_by h c m qs v x (at c x) refl

act_under : (b : Bool) (c : ℕ) (g : Operator) (qs : List ℕ) (v : Vector) (x : Bits) → act (under b g).entries (c ∷ qs) v x ≡ choose (agrees b (at c x)) (act g.entries qs v x) (times (two_to g.halvings) (v x))
act_under true c g qs v x = act_ctrl 0 g.halvings c g.entries qs v x
act_under false c g qs v x = act_negctrl g.halvings c g.entries qs v x

halvings-under : (b : Bool) (g : Operator) → (under b g).halvings ≡ g.halvings
halvings-under true g = refl
halvings-under false g = refl

pub halvings-under_all : (cs : List Control) (g : Operator) → (under_all cs g).halvings ≡ g.halvings
halvings-under_all [] g = refl
halvings-under_all (c ∷ cs) g = halvings-under c.value (under_all cs g) ∙ halvings-under_all cs g

choose_both : (s t : Bool) (a b : Omega) → choose s (choose t a b) b ≡ choose (s && t) a b
choose_both true t a b = refl
choose_both false t a b = refl

pub act_under_all : (cs : List Control) (g : Operator) (qs : List ℕ) (v : Vector) (x : Bits) → act (under_all cs g).entries (qubits_under cs qs) v x ≡ choose (holds cs x) (act g.entries qs v x) (times (two_to g.halvings) (v x))
act_under_all [] g qs v x = refl
act_under_all (c ∷ cs) g qs v x =
    act_under c.value c.qubit (under_all cs g) (qubits_under cs qs) v x
    ∙ ap (λ h. choose (agrees c.value (at c.qubit x)) (act (under_all cs g).entries (qubits_under cs qs) v x) (times (two_to h) (v x))) (halvings-under_all cs g)
    ∙ ap (λ r. choose (agrees c.value (at c.qubit x)) r (times (two_to g.halvings) (v x))) (act_under_all cs g qs v x)
    ∙ choose_both (agrees c.value (at c.qubit x)) (holds cs x) _ _
