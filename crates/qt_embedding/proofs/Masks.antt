-- The controls of two masks hold where the masks do, and their qubits are different.
use Rattle.std.proofs.Common.{◌≡◌, ◌≢◌, ℕ, zero, suc, ◌+◌, ◌^◌, ◌<◌, ◌≤◌, min, Bool, true, false, not, ◌&&◌, List, [], ◌∷◌, nat_eq, refl, sym, ap, subst, ◌∙◌, arith, eq-eqb}
use borrow.Author.Tests.{eqb-true}
use mathlib.Core.Logic.{◌⊎◌, inl, inr}
use Rattle.std.specs.Int.{bit_at}
use Rattle.std.specs.Int.RustNames.{bit_and}
use Rattle.std.proofs.lemmas.Nat.Bits.{bit_at-lt, bit_at_and, bit_at-zero, same_from_bits_below}
use Rattle.std.proofs.lemmas.Nat.{and_le_r}
use Rattle.qt_ring.specs.Places.{Bits, at, is_one, bits_of, Free, AreQubits}
use Rattle.qt_ring.proofs.Entries.{at_bits_of}
use Rattle.qt_embedding.specs.Controls.{Control, qubits_under, asked_for, controls_from, AreMasks, IsTarget}
use Rattle.qt_embedding.specs.Entries.{masks_hold}
use Rattle.qt_embedding.proofs.Tests.{iff, and_left, and_right, and_both, same_or_not, zero_or_one, is_one_true, is_one_false, one_above, one_none}

abbrev pub agrees : Bool → Bool → Bool
agrees true b = b
agrees false b = not b

-- all controls have the bits that they ask for
abbrev pub holds : List Control → Bits → Bool
holds [] x = true
holds (c ∷ cs) x = agrees c.value (at c.qubit x) && holds cs x

-- what the masks ask of the bit of a qubit
pub record Fine (ones off r : ℕ) (b : Bool) : Type 0 where
  pub set : 0 < bit_at ones r → b ≡ true
  pub unset : 0 < bit_at off r → b ≡ false

asked_true : (t : Bool) (q : ℕ) (b : Bool) (cs : List Control) (x : Bits) → holds (asked_for t q b cs) x ≡ true → (holds cs x ≡ true) × (t ≡ true → agrees b (at q x) ≡ true)
asked_true true q b cs x e = (and_right (agrees b (at q x)) (holds cs x) e, λ f. and_left (agrees b (at q x)) (holds cs x) e)
asked_true false q b cs x e = (e, λ f. absurd (cc))

true_asked : (t : Bool) (q : ℕ) (b : Bool) (cs : List Control) (x : Bits) → holds cs x ≡ true → (t ≡ true → agrees b (at q x) ≡ true) → holds (asked_for t q b cs) x ≡ true
true_asked true q b cs x e h = and_both (agrees b (at q x)) (holds cs x) (h refl) e
true_asked false q b cs x e h = e

agrees_set : (b : Bool) → agrees true b ≡ true → b ≡ true
agrees_set true e = refl
agrees_set false e = absurd (cc)

agrees_unset : (b : Bool) → agrees false b ≡ true → b ≡ false
agrees_unset true e = absurd (cc)
agrees_unset false e = refl

here_or_later : (q r : ℕ) → q ≤ r → (q ≡ r) ⊎ (suc q ≤ r)
here_or_later q r h = elim (same_or_not q r) [ inl e ↦ inl e | inr f ↦ inr (let g : q ≢ r = f in omega arith) ]

fine_from : (m q ones off : ℕ) (x : Bits) (r : ℕ) → q ≤ r → r < q + suc m → Fine ones off q (at q x) → ((r : ℕ) → suc q ≤ r → r < suc q + m → Fine ones off r (at r x)) → Fine ones off r (at r x)
fine_from m q ones off x r h k f g = elim (here_or_later q r h) [ inl e ↦ subst (λ (s : ℕ). Fine ones off s (at s x)) e f | inr l ↦ g r l (omega arith) ]

-- where the controls hold, each bit is as the masks ask
pub holds_fine : (m q ones off : ℕ) (x : Bits) → holds (controls_from q m ones off) x ≡ true → (r : ℕ) → q ≤ r → r < q + m → Fine ones off r (at r x)
holds_fine zero q ones off x e r h k = absurd (omega arith)
holds_fine (suc m) q ones off x e r h k =
    let a = asked_true (is_one (bit_at ones q)) q true (asked_for (is_one (bit_at off q)) q false (controls_from (suc q) m ones off)) x e in
    let b = asked_true (is_one (bit_at off q)) q false (controls_from (suc q) m ones off) x a.0 in
    fine_from m q ones off x r h k (record { set = λ p. agrees_set (at q x) (a.1 (is_one_true (bit_at ones q) p)); unset = λ p. agrees_unset (at q x) (b.1 (is_one_true (bit_at off q) p)) }) (holds_fine m (suc q) ones off x b.0)

pub fine_holds : (m q ones off : ℕ) (x : Bits) → ((r : ℕ) → q ≤ r → r < q + m → Fine ones off r (at r x)) → holds (controls_from q m ones off) x ≡ true
fine_holds zero q ones off x h = refl
fine_holds (suc m) q ones off x h =
    let f : Fine ones off q (at q x) = h q (omega arith) (omega arith) in
    true_asked (is_one (bit_at ones q)) q true _ x
    (true_asked (is_one (bit_at off q)) q false _ x (fine_holds m (suc q) ones off x (λ r k l. h r (omega arith) (omega arith))) (λ e. ap (agrees false) (f.unset (one_above (bit_at off q) e))))
    (λ e. ap (agrees true) (f.set (one_above (bit_at ones q) e)))

masks_fine : (ones off i : ℕ) → bit_and i ones ≡ ones → bit_and i off ≡ 0 → (r : ℕ) → Fine ones off r (is_one (bit_at i r))
masks_fine ones off i e f r =
    let a : min (bit_at i r) (bit_at ones r) ≡ bit_at ones r = sym (bit_at_and i ones r) ∙ ap (λ k. bit_at k r) e in
    let b : min (bit_at i r) (bit_at off r) ≡ 0 = sym (bit_at_and i off r) ∙ ap (λ k. bit_at k r) f ∙ bit_at-zero r in
    record { set = λ p. is_one_true (bit_at i r) (omega arith); unset = λ p. is_one_false (bit_at i r) (omega arith) }

ones_bit : (ones off i r : ℕ) → Fine ones off r (is_one (bit_at i r)) → min (bit_at i r) (bit_at ones r) ≡ bit_at ones r
ones_bit ones off i r f = elim (zero_or_one (bit_at ones r) (bit_at-lt ones r)) [ inl e ↦ omega arith | inr e ↦ (let p : 0 < bit_at i r = one_above (bit_at i r) (f.set (omega arith)) in omega arith) ]

fine_ones : (n ones off i : ℕ) → ones < 2 ^ n → ((r : ℕ) → r < n → Fine ones off r (is_one (bit_at i r))) → bit_and i ones ≡ ones
fine_ones n ones off i k h = same_from_bits_below n (bit_and i ones) ones (omega (arith, and_le_r i ones)) k (λ r l. bit_at_and i ones r ∙ ones_bit ones off i r (h r l))

off_bit : (ones off i r : ℕ) → Fine ones off r (is_one (bit_at i r)) → min (bit_at i r) (bit_at off r) ≡ 0
off_bit ones off i r f = elim (zero_or_one (bit_at off r) (bit_at-lt off r)) [ inl e ↦ omega arith | inr e ↦ (let p : bit_at i r ≡ 0 = one_none (bit_at i r) (f.unset (omega arith)) in omega arith) ]

fine_off : (n ones off i : ℕ) → off < 2 ^ n → ((r : ℕ) → r < n → Fine ones off r (is_one (bit_at i r))) → bit_and i off ≡ 0
fine_off n ones off i k h = same_from_bits_below n (bit_and i off) 0 (omega (arith, and_le_r i off)) (omega arith) (λ r l. bit_at_and i off r ∙ off_bit ones off i r (h r l) ∙ sym (bit_at-zero r))

-- the controls of the masks hold where the masks do
pub masks_are : (n ones off i : ℕ) → AreMasks n ones off → holds (controls_from 0 n ones off) (bits_of n i) ≡ masks_hold ones off i
masks_are n ones off i m = iff _ _
    (λ e.
    let f : (r : ℕ) → r < n → Fine ones off r (is_one (bit_at i r)) = λ r l. subst (Fine ones off r) (at_bits_of n r i l) (holds_fine n 0 ones off (bits_of n i) e r (omega arith) (omega arith)) in
    and_both _ _ (eq-eqb _ _ (fine_ones n ones off i m.ones_in f)) (eq-eqb _ _ (fine_off n ones off i m.clear_in f)))
    (λ e. fine_holds n 0 ones off (bits_of n i) (λ r l j.
    let p : r < n = omega arith in
    subst (Fine ones off r) (sym (at_bits_of n r i p)) (masks_fine ones off i (eqb-true _ _ (and_left _ _ e)) (eqb-true _ _ (and_right (nat_eq (bit_and i ones) ones) _ e)) r)))

-- ---- the qubits are different and below n
asked_free : (s : Bool) (r q : ℕ) (b : Bool) (cs : List Control) (qs : List ℕ) → r ≢ q → Free r (qubits_under cs qs) → Free r (qubits_under (asked_for s q b cs) qs)
asked_free true r q b cs qs h f = (h, f)
asked_free false r q b cs qs h f = f

later_free : (m q r ones off : ℕ) (qs : List ℕ) → r < q → Free r qs → Free r (qubits_under (controls_from q m ones off) qs)
later_free zero q r ones off qs h f = f
later_free (suc m) q r ones off qs h f =
    let e : r ≢ q = omega arith in
    asked_free (is_one (bit_at ones q)) r q true (asked_for (is_one (bit_at off q)) q false (controls_from (suc q) m ones off)) qs e
    (asked_free (is_one (bit_at off q)) r q false (controls_from (suc q) m ones off) qs e (later_free m (suc q) r ones off qs (omega arith) f))

abbrev not_both : Bool → Bool → Bool
not_both true true = false
not_both _ _ = true

one_more : (n q : ℕ) (s u : Bool) (cs : List Control) (qs : List ℕ) → not_both s u ≡ true → q < n → (s ≡ true → Free q (qubits_under cs qs)) → (u ≡ true → Free q (qubits_under cs qs)) → AreQubits n (qubits_under cs qs) → AreQubits n (qubits_under (asked_for s q true (asked_for u q false cs)) qs)
one_more n q true true cs qs e h f g r = absurd (cc)
one_more n q true false cs qs e h f g r = (h, f refl, r)
one_more n q false true cs qs e h f g r = (h, g refl, r)
one_more n q false false cs qs e h f g r = r

-- the qubits of a list are in neither mask
record AreApart (ones off : ℕ) (qs : List ℕ) : Type 0 where
  from_ones : (r : ℕ) → is_one (bit_at ones r) ≡ true → Free r qs
  from_off : (r : ℕ) → is_one (bit_at off r) ≡ true → Free r qs
  one_asks : (r : ℕ) → not_both (is_one (bit_at ones r)) (is_one (bit_at off r)) ≡ true

fit_from : (m q n ones off : ℕ) (qs : List ℕ) → q + m ≤ n → AreQubits n qs → AreApart ones off qs → AreQubits n (qubits_under (controls_from q m ones off) qs)
fit_from zero q n ones off qs k f a = f
fit_from (suc m) q n ones off qs k f a = one_more n q (is_one (bit_at ones q)) (is_one (bit_at off q)) (controls_from (suc q) m ones off) qs (a.one_asks q) (omega arith)
    (λ e. later_free m (suc q) q ones off qs (omega arith) (a.from_ones q e))
    (λ e. later_free m (suc q) q ones off qs (omega arith) (a.from_off q e))
    (fit_from m (suc q) n ones off qs (omega arith) f a)

small_off : (a b : ℕ) → min a b ≡ 0 → not_both (is_one a) (is_one b) ≡ true
small_off zero b h = refl
small_off (suc a) zero h = refl
small_off (suc a) (suc b) h = absurd (omega arith)

apart_bits : (a b r : ℕ) → bit_and a b ≡ 0 → not_both (is_one (bit_at a r)) (is_one (bit_at b r)) ≡ true
apart_bits a b r e =
    let h : min (bit_at a r) (bit_at b r) ≡ 0 = sym (bit_at_and a b r) ∙ ap (λ k. bit_at k r) e ∙ bit_at-zero r in
    small_off (bit_at a r) (bit_at b r) h

other_qubit : (mask r t : ℕ) → bit_at mask t ≡ 0 → is_one (bit_at mask r) ≡ true → r ≢ t
other_qubit mask r t z e f = let h : is_one (bit_at mask r) ≡ false = is_one_false (bit_at mask r) (ap (bit_at mask) f ∙ z) in cc

-- masks that are apart from one another and from a target
pub masks_fit_one : (n ones off t : ℕ) → AreMasks n ones off → IsTarget n ones off t → AreQubits n (qubits_under (controls_from 0 n ones off) (t ∷ []))
masks_fit_one n ones off t m g = fit_from n 0 n ones off (t ∷ []) (omega arith) (g.target_in, tt, tt) (record {
  from_ones = λ r e. (other_qubit ones r t g.not_in_ones e, tt);
  from_off = λ r e. (other_qubit off r t g.not_in_clear e, tt);
  one_asks = λ r. apart_bits ones off r m.apart;
})

-- masks alone
pub masks_fit_none : (n ones off : ℕ) → AreMasks n ones off → AreQubits n (qubits_under (controls_from 0 n ones off) [])
masks_fit_none n ones off m = fit_from n 0 n ones off [] (omega arith) tt (record { from_ones = λ r e. tt; from_off = λ r e. tt; one_asks = λ r. apart_bits ones off r m.apart })
