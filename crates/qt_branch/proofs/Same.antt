-- The tests for two amplitudes, two lists of them and two branches are true exactly where the two are one.
use Rattle.std.proofs.Common.{◌≡◌, ℕ, Bool, true, ◌&&◌, List, nat_eq, ap, ◌∙◌}
use Rattle.std.specs.Bool.{Decides}
use Rattle.std.specs.Cmp.Lexicographic.{pointwise_decides}
use Rattle.std.specs.Ordering.{int_eq}
use Rattle.std.proofs.lemmas.Bool.Decides.{Decides-eqb, Decides-int_eq}
use lib.Pointwise.{pointwise}
use Rattle.qt_ring.specs.declared.omega.Omega.{Omega}
use Rattle.qt_ring.proofs.RingLaws.{same as same_coefficients, and_left, and_right}
use Rattle.qt_branch.specs.Amplitudes.{same_amplitude}
use Rattle.qt_branch.specs.Parts.{Parts, same}

both_true : (a b : Bool) → a ≡ true → b ≡ true → (a && b) ≡ true
both_true a b e f = ap (λ t. t && b) e ∙ f

-- two tests in a row
both_decide : {P Q : Type 0} (a b : Bool) → Decides a P → Decides b Q → Decides (a && b) (P × Q)
both_decide a b p q = (λ h. (p.0 (and_left a b h), q.0 (and_right a b h)), λ h. both_true a b (p.1 h.0) (q.1 h.1))

-- a test of something else that is true exactly where this is
decided_as : {P Q : Type 0} (a : Bool) → (P → Q) → (Q → P) → Decides a P → Decides a Q
decided_as a f g d = (λ h. f (d.0 h), λ h. d.1 (g h))

amplitude_decided : (x y : Omega) → Decides (same_amplitude x y) (x ≡ y)
amplitude_decided x y =
    decided_as (same_amplitude x y) (λ h. same_coefficients x y h.0 h.1.0 h.1.1.0 h.1.1.1)
    (λ e. (ap (λ (t : Omega). t.c0) e, (ap (λ (t : Omega). t.c1) e, (ap (λ (t : Omega). t.c2) e, ap (λ (t : Omega). t.c3) e))))
    (both_decide (int_eq x.c0 y.c0) _ (Decides-int_eq x.c0 y.c0)
    (both_decide (int_eq x.c1 y.c1) _ (Decides-int_eq x.c1 y.c1)
    (both_decide (int_eq x.c2 y.c2) (int_eq x.c3 y.c3) (Decides-int_eq x.c2 y.c2) (Decides-int_eq x.c3 y.c3))))

amplitudes_decided : (xs ys : List Omega) → Decides (pointwise same_amplitude xs ys) (xs ≡ ys)
amplitudes_decided = pointwise_decides amplitude_decided

slots_decided : (xs ys : List ℕ) → Decides (pointwise nat_eq xs ys) (xs ≡ ys)
slots_decided = pointwise_decides Decides-eqb

abbrev made : ℕ → List ℕ → List Omega → Parts
made at slots entries = record { at = at; slots = slots; entries = entries }

same_parts : (a b : Parts) → a.at ≡ b.at → a.slots ≡ b.slots → a.entries ≡ b.entries → a ≡ b
same_parts a b e f g = ap (λ n. made n a.slots a.entries) e ∙ ap (λ xs. made b.at xs a.entries) f ∙ ap (made b.at b.slots) g

pub same_decided : (a b : Parts) → Decides (same a b) (a ≡ b)
same_decided a b =
    decided_as (same a b) (λ h. same_parts a b h.0 h.1.0 h.1.1)
    (λ e. (ap (λ (t : Parts). t.at) e, (ap (λ (t : Parts). t.slots) e, ap (λ (t : Parts). t.entries) e)))
    (both_decide (nat_eq a.at b.at) _ (Decides-eqb a.at b.at)
    (both_decide (pointwise nat_eq a.slots b.slots) (pointwise same_amplitude a.entries b.entries) (slots_decided a.slots b.slots) (amplitudes_decided a.entries b.entries)))
