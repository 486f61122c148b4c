-- The loop that turns the amplitudes at which the controls of a phase hold.
use Rattle.std.proofs.Common.{◌≡◌, ◌≢◌, ℕ, zero, suc, ◌+◌, ◌<◌, ◌≤◌, Bool, true, false, cond, List, length, get_or, set, neg_ℤ, refl, sym, ap, subst, ◌∙◌, arith}
use mathlib.Core.Logic.{inl, inr}
use Rattle.std.proofs.lemmas.Grind.{common_steps}
use Rattle.std.proofs.lemmas.Int.{ints}
use Rattle.qt_ring.specs.declared.omega.Omega.{Omega}
use Rattle.qt_ring.specs.Ring.{nil, the_omega, times, two_to, root}
use Rattle.qt_ring.proofs.RingLaws.{one-times, times_assoc}
use Rattle.qt_ring.proofs.Coefficients.{turned_is}
use Rattle.qt_vector.specs.States.{IsSmall, AreSmall}
use Rattle.qt_embedding.specs.Entries.{masks_hold}
use Rattle.qt_embedding.proofs.Tests.{same_or_not}
use Rattle.qt_kernel.specs.declared.gate.Controls.{Controls}
use Rattle.qt_kernel.specs.Gates.{entry_after_phase}

-- how far the loop has come
pub record Phasing (c : Controls) (angle : ℕ) (old now : List Omega) (i : ℕ) : Type 0 where
  pub done : (j : ℕ) → j < i → get_or now j nil ≡ entry_after_phase c angle old j
  pub left : (j : ℕ) → i ≤ j → get_or now j nil ≡ get_or old j nil

pub phasing_begins : (c : Controls) (angle : ℕ) (old : List Omega) → Phasing c angle old old 0
phasing_begins c angle old = record { done = λ j l. absurd (omega arith); left = λ j l. refl }

turned_entry : (c : Controls) (angle : ℕ) (old : List Omega) (i : ℕ) → masks_hold c.ones c.zeros i ≡ true → times (root angle) (get_or old i nil) ≡ entry_after_phase c angle old i
turned_entry c angle old i e = ap (λ b. cond b (times (root angle) (get_or old i nil)) (times (two_to 0) (get_or old i nil))) (sym e)

kept_entry : (c : Controls) (angle : ℕ) (old : List Omega) (i : ℕ) → masks_hold c.ones c.zeros i ≡ false → get_or old i nil ≡ entry_after_phase c angle old i
kept_entry c angle old i e = sym (one-times (get_or old i nil)) ∙ ap (λ b. cond b (times (root angle) (get_or old i nil)) (times (two_to 0) (get_or old i nil))) (sym e)

set_here : (s : List Omega) (i : ℕ) (x : Omega) → i < length s → get_or (set s i x) i nil ≡ x
set_here s i x h = grind (arith, common_steps)

set_other : (s : List Omega) (i j : ℕ) (x : Omega) → j ≢ i → get_or (set s i x) j nil ≡ get_or s j nil
set_other s i j x h = grind (arith, common_steps)

-- an entry is turned
pub turned_on : (c : Controls) (angle : ℕ) (old now : List Omega) (i : ℕ) (h : Bool) (x : Omega) → i < length now → h ≡ masks_hold c.ones c.zeros i → h ≡ true → x ≡ times (root angle) (get_or now i nil) → Phasing c angle old now i → Phasing c angle old (set now i x) (i + 1)
turned_on c angle old now i h x l m t e r =
    let is : x ≡ entry_after_phase c angle old i = e ∙ ap (times (root angle)) (r.left i (omega arith)) ∙ turned_entry c angle old i (sym m ∙ t) in
    record {
      done = λ j k. elim (same_or_not j i) [
        | inl q ↦ ap (λ n. get_or (set now i x) n nil) q ∙ set_here now i x l ∙ is ∙ ap (entry_after_phase c angle old) (sym q)
        | inr f ↦ set_other now i j x f ∙ r.done j (let g : j ≢ i = f in omega arith)
      ];
      left = λ j k. let f : j ≢ i = omega arith in set_other now i j x f ∙ r.left j (omega arith);
    }

-- or is left as it was
pub kept_on : (c : Controls) (angle : ℕ) (old now : List Omega) (i : ℕ) (h : Bool) → h ≡ masks_hold c.ones c.zeros i → h ≡ false → Phasing c angle old now i → Phasing c angle old now (i + 1)
kept_on c angle old now i h m t r = record {
  done = λ j k. elim (same_or_not j i) [
    | inl q ↦ ap (λ n. get_or now n nil) q ∙ r.left i (omega arith) ∙ kept_entry c angle old i (sym m ∙ t) ∙ ap (entry_after_phase c angle old) (sym q)
    | inr f ↦ r.done j (let g : j ≢ i = f in omega arith)
  ];
  left = λ j k. r.left j (omega arith);
}

pub phasing_small : (c : Controls) (angle : ℕ) (old now : List Omega) (i : ℕ) → length now ≡ length old → AreSmall old → i < length now → Phasing c angle old now i → IsSmall (get_or now i nil)
phasing_small c angle old now i e a l r = subst IsSmall (sym (r.left i (omega arith))) (a i nil (omega arith))

-- ---- sizes
turned_once : (x : Omega) → IsSmall x → IsSmall (times the_omega x)
turned_once x w =
    subst IsSmall (turned_is x (record { c0 = neg_ℤ x.c3; c1 = x.c0; c2 = x.c1; c3 = x.c2 }) refl refl refl refl)
    (record { c0_in = omega (arith, ints, w.c3_in); c1_in = w.c0_in; c2_in = w.c1_in; c3_in = w.c2_in })

-- a power of ω makes no coefficient larger
pub turned_small : (n : ℕ) (x : Omega) → IsSmall x → IsSmall (times (root n) x)
turned_small zero x w = subst IsSmall (sym (one-times x)) w
turned_small (suc n) x w = subst IsSmall (sym (times_assoc the_omega (root n) x)) (turned_once (times (root n) x) (turned_small n x w))
