-- The list that is written, entry by entry, and what is known of the form before.
use Rattle.std.proofs.Common.{◌≡◌, ℕ, ◌+◌, ◌^◌, ◌<◌, ◌≤◌, List, [], ◌∷◌, ◌++◌, take, drop, length, get_or, refl, sym, ap, ◌∙◌, arith, subst}
use Rattle.std.specs.Prelude.{All}
use Rattle.std.specs.Int.RustNames.{unsigned_abs}
use Rattle.std.proofs.Math.ListN.{set, length-set}
use Rattle.std.proofs.lemmas.List.{take_more, take_more_set, take_all, drop_more, drop-set-lt}
use Rattle.std.proofs.lemmas.List.Elements.{All-nil, All-push, All-weaker}
use Rattle.qt_ring.specs.declared.omega.Omega.{Omega}
use Rattle.qt_ring.specs.declared.TheConstants.{LARGEST}
use Rattle.qt_ring.specs.Ring.{nil, times, Within}
use Rattle.qt_ring.specs.Multiples.{scaled}
use Rattle.qt_ring.proofs.RingLaws.{within_more}
use Rattle.qt_ring.proofs.Units.{cancelled}
use Rattle.qt_canon_laws.specs.Canonical.{Taken, factor_of, IsCanonical}
use Rattle.qt_canon_laws.proofs.Lists.{scaled_cancel, length-scaled, get_or-scaled}
use Rattle.qt_canon_laws.proofs.Smooth.{factor_not_nil}
use Rattle.qt_canon_laws.proofs.Forms.{canonical_product}
use Rattle.qt_canon.proofs.Entries.{scaled-append}

abbrev pub IsSmall : Omega → Type 0
IsSmall x = Within (unsigned_abs LARGEST) x

-- LARGEST is within what the ring's calls take
pub small_within : (v : List Omega) → All IsSmall v → All (Within (2 ^ 54)) v
small_within v = All-weaker IsSmall (Within (2 ^ 54)) (λ x w. within_more (unsigned_abs LARGEST) (2 ^ 54) x (omega arith) w) v

-- what is left of the list over a factor is small
abbrev pub Leaves : Taken → List Omega → Type 0
Leaves k v = (u : List Omega) × ((scaled (factor_of k) u ≡ v) × All IsSmall u)

pub leaves_none : (k : Taken) → Leaves k []
leaves_none k = ([], (refl, All-nil IsSmall))

pub leaves_more : (k : Taken) (v : List Omega) (i : ℕ) (d z : Omega) → i < length v → times (factor_of k) z ≡ get_or v i d → IsSmall z → Leaves k (take i v) → Leaves k (take (i + 1) v)
leaves_more k v i d z l e s (u, (f, a)) = (
  u ++ z ∷ [],
  (
    scaled-append (factor_of k) u (z ∷ []) ∙ ap (λ t. t ++ times (factor_of k) z ∷ []) f ∙ ap (λ t. take i v ++ t ∷ []) e ∙ sym (take_more v i d l),
    All-push IsSmall u z a s,
  ),
)

pub leaves_all : (k : Taken) (v : List Omega) (i : ℕ) → length v ≤ i → Leaves k (take i v) → Leaves k v
leaves_all k v i l = subst (Leaves k) (take_all i v l)

-- a small list leaves each entry's result small
pub leaves_each : (k : Taken) (v : List Omega) (i : ℕ) (z : Omega) → i < length v → times (factor_of k) z ≡ get_or v i nil → Leaves k v → IsSmall z
leaves_each k v i z l e (u, (f, a)) =
    let n : length u ≡ length v = length-scaled (factor_of k) u v f in
    subst IsSmall (cancelled (factor_of k) (get_or u i nil) z (factor_not_nil k) (get_or-scaled (factor_of k) u v f i l ∙ sym e)) (a i nil (omega arith))

-- ---- the list that is written, up to an index
pub record Writing (k : Taken) (old now : List Omega) (i : ℕ) : Type 0 where
  pub long : length now ≡ length old
  pub done : scaled (factor_of k) (take i now) ≡ take i old
  pub small : All IsSmall (take i now)
  pub rest : drop i now ≡ drop i old

pub writing_begins : (k : Taken) (old : List Omega) → Writing k old old 0
writing_begins k old = record { long = refl; done = refl; small = All-nil IsSmall; rest = refl }

pub unwritten : (k : Taken) (old now : List Omega) (i : ℕ) (d : Omega) → i < length now → Writing k old now i → get_or now i d ≡ get_or old i d
unwritten k old now i d l w =
    let a : drop i now ≡ get_or now i d ∷ drop (i + 1) now = drop_more now i d l in
    let m : i < length old = let n = w.long in omega arith in
    let b : drop i old ≡ get_or old i d ∷ drop (i + 1) old = drop_more old i d m in
    let e : get_or now i d ∷ drop (i + 1) now ≡ get_or old i d ∷ drop (i + 1) old = sym a ∙ w.rest ∙ b in
    cc

unwritten_rest : (k : Taken) (old now : List Omega) (i : ℕ) (d : Omega) → i < length now → Writing k old now i → drop (i + 1) now ≡ drop (i + 1) old
unwritten_rest k old now i d l w =
    let a : drop i now ≡ get_or now i d ∷ drop (i + 1) now = drop_more now i d l in
    let m : i < length old = let n = w.long in omega arith in
    let b : drop i old ≡ get_or old i d ∷ drop (i + 1) old = drop_more old i d m in
    let e : get_or now i d ∷ drop (i + 1) now ≡ get_or old i d ∷ drop (i + 1) old = sym a ∙ w.rest ∙ b in
    cc

pub writing_on : (k : Taken) (old now : List Omega) (i : ℕ) (d y : Omega) → i < length now → times (factor_of k) y ≡ get_or now i d → IsSmall y → Writing k old now i → Writing k old (set now i y) (i + 1)
writing_on k old now i d y l e s w =
    let m : i < length old = let n = w.long in omega arith in
    let n : i < i + 1 = omega arith in record {
      long = length-set now i y ∙ w.long;
      done = ap (scaled (factor_of k)) (take_more_set now i y l)
          ∙ scaled-append (factor_of k) (take i now) (y ∷ [])
          ∙ ap (λ t. t ++ times (factor_of k) y ∷ []) w.done
          ∙ ap (λ t. take i old ++ t ∷ []) (e ∙ unwritten k old now i d l w)
          ∙ sym (take_more old i d m);
      small = subst (All IsSmall) (sym (take_more_set now i y l)) (All-push IsSmall (take i now) y w.small s);
      rest = drop-set-lt (i + 1) now i y n ∙ unwritten_rest k old now i d l w;
    }

pub all_written : (k : Taken) (old now : List Omega) (i : ℕ) → length now ≤ i → Writing k old now i → (scaled (factor_of k) now ≡ old) × All IsSmall now
all_written k old now i l w =
    let m : length old ≤ i = let n = w.long in omega arith in
    (ap (scaled (factor_of k)) (sym (take_all i now l)) ∙ w.done ∙ take_all i old m, subst (All IsSmall) (take_all i now l) w.small)

-- ---- the form
pub form_written : (old new : List Omega) (k : Taken) → scaled (factor_of k) new ≡ old → (u : List Omega) × IsCanonical old u k → IsCanonical old new k
form_written old new k e (u, c) =
    subst (λ (t : List Omega). IsCanonical old t k) (scaled_cancel (factor_of k) u new (factor_not_nil k) (canonical_product old u k c ∙ sym e)) c

pub form_too_large : (old : List Omega) (k : Taken) → (Leaves k old → ⊥) → (u : List Omega) × IsCanonical old u k → (u : List Omega) × ((l : Taken) × (IsCanonical old u l × (All IsSmall u → ⊥)))
form_too_large old k h (u, c) = (u, (k, (c, λ a. h (u, (canonical_product old u k c, a)))))
