-- How products, controls and the identity act on chosen qubits.
use Rattle.std.proofs.Common.{◌≡◌, ℕ, Bool, true, false, List, ◌∷◌, length, refl, sym, ap, ◌∙◌}
use Rattle.qt_ring.specs.declared.omega.Omega.{Omega}
use Rattle.qt_ring.specs.Ring.{nil, plus, times, two_to}
use Rattle.qt_ring.specs.Places.{Bits, at, get, AreQubits}
use Rattle.qt_ring.specs.Matrix.{Matrix, same, sum, product, identity, ctrl}
use Rattle.qt_ring.proofs.RingLaws.{plus-nil, nil-plus, nil-times, times_assoc, plus_both}
use Rattle.qt_ring.proofs.Bits.{Long, put, write, put_at, get_long, get_write, write_get, write_write, write_long}
use Rattle.qt_ring.proofs.Sums.{Vector, sum_ext, sum-nil, times-sum, sum-times, sum_swap, sum_pick, kept-times, act}

pub act_ext : (n : ℕ) (m : Matrix) (qs : List ℕ) (v w : Vector) (x : Bits) → Long n x → ((y : Bits) → Long n y → v y ≡ w y) → act m qs v x ≡ act m qs w x
act_ext n m qs v w x l h = sum_ext (length qs) _ _ (λ z k. ap (times (m (get qs x) z)) (h (write qs z x) (write_long n qs z x l)))

abbrev pub Same : ℕ → Matrix → Matrix → Type 0
Same k a b = (x y : Bits) → Long k x → Long k y → a x y ≡ b x y

pub act_same : (a b : Matrix) (qs : List ℕ) (v : Vector) (x : Bits) → Same (length qs) a b → act a qs v x ≡ act b qs v x
act_same a b qs v x h = sum_ext (length qs) _ _ (λ z k. ap (λ c. times c (v (write qs z x))) (h (get qs x) z (get_long qs x) k))

pub act_product : (n : ℕ) (a b : Matrix) (qs : List ℕ) (v : Vector) (x : Bits) → AreQubits n qs → Long n x → act (product (length qs) a b) qs v x ≡ act a qs (act b qs v) x
act_product n a b qs v x f l =
    sum_ext (length qs) _ _ (λ z k. sum-times (length qs) (v (write qs z x)) (λ u. times (a (get qs x) u) (b u z)))
    ∙ sum_swap (length qs) (length qs) (λ z u. times (times (a (get qs x) u) (b u z)) (v (write qs z x)))
    ∙ sum_ext (length qs) _ _ (λ u j.
    sum_ext (length qs) _ _ (λ z k.
    times_assoc (a (get qs x) u) (b u z) (v (write qs z x))
    ∙ ap (λ c. times (a (get qs x) u) (times (b c z) (v (write qs z x)))) (sym (get_write n qs u x f l j))
    ∙ ap (λ y. times (a (get qs x) u) (times (b (get qs (write qs u x)) z) (v y))) (sym (write_write n qs z u x f k j)))
    ∙ sym (times-sum (length qs) (a (get qs x) u) (λ z. times (b (get qs (write qs u x)) z) (v (write qs z (write qs u x))))))

pub act_identity : (n h : ℕ) (qs : List ℕ) (v : Vector) (x : Bits) → act (identity h) qs v x ≡ times (two_to h) (v x)
act_identity n h qs v x =
    sum_ext (length qs) _ _ (λ z k. kept-times (same (get qs x) z) (two_to h) (v (write qs z x)))
    ∙ sum_pick (length qs) (get qs x) (λ z. times (two_to h) (v (write qs z x))) (get_long qs x)
    ∙ ap (λ y. times (two_to h) (v y)) (write_get qs x)

abbrev pub choose : Bool → Omega → Omega → Omega
choose true a b = a
choose false a b = b

none : (k : ℕ) (f : Bits → Omega) → sum k (λ z. times nil (f z)) ≡ nil
none k f = sum_ext k _ _ (λ z l. nil-times (f z)) ∙ sum-nil k

ctrl_by : (n h c : ℕ) (m : Matrix) (qs : List ℕ) (v : Vector) (x : Bits) (b : Bool) → at c x ≡ b → plus (sum (length qs) (λ z. times (ctrl h m (b ∷ get qs x) (false ∷ z)) (v (write qs z (put c false x))))) (sum (length qs) (λ z. times (ctrl h m (b ∷ get qs x) (true ∷ z)) (v (write qs z (put c true x))))) ≡ choose b (act m qs v x) (times (two_to h) (v x))
ctrl_by n h c m qs v x true e =
    plus_both _ _ _ _ (none (length qs) (λ z. v (write qs z (put c false x)))) (ap (λ y. sum (length qs) (λ z. times (m (get qs x) z) (v (write qs z y)))) (ap (λ b. put c b x) (sym e) ∙ put_at c x))
    ∙ nil-plus _
ctrl_by n h c m qs v x false e =
    plus_both _ _ _ _ (ap (λ y. sum (length qs) (λ z. times (identity h (get qs x) z) (v (write qs z y)))) (ap (λ b. put c b x) (sym e) ∙ put_at c x) ∙ act_identity n h qs v x) (none (length qs) (λ z. v (write qs z (put c true x))))
    ∙ plus-nil _

-- a controlled matrix acts where the control is 1
pub act_ctrl : (n h c : ℕ) (m : Matrix) (qs : List ℕ) (v : Vector) (x : Bits) → act (ctrl h m) (c ∷ qs) v x ≡ choose (at c x) (act m qs v x) (times (two_to h) (v x))
act_ctrl n h c m qs v x = ctrl_by n h c m qs v x (at c x) refl
