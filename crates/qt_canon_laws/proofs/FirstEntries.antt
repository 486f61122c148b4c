-- The first entry of a list that isn't 0.
use Rattle.std.proofs.Common.{◌≡◌, ℕ, zero, suc, ◌<◌, Bool, true, false, List, [], ◌∷◌, length, get_or, refl, sym, ap, ◌∙◌, arith}
use Rattle.std.specs.Prelude.{cond, ◌&&◌}
use Rattle.qt_ring.specs.declared.omega.Omega.{Omega}
use Rattle.qt_ring.specs.Ring.{nil, times, is_nil}
use Rattle.qt_ring.specs.Multiples.{scaled}
use Rattle.qt_ring.specs.State.{all_nil}
use Rattle.qt_ring.proofs.RingLaws.{times-nil, is_nil_true, is_nil-nil, and_left, and_right}
use Rattle.qt_ring.proofs.Units.{no_zero_divisors}
use Rattle.qt_canon_laws.specs.FirstEntry.{first_entry}

-- ---- of a multiple
first_kept : (c x : Omega) (xs : List Omega) (b : Bool) → is_nil (times c x) ≡ b → is_nil x ≡ false → (c ≡ nil → ⊥) → cond b (first_entry (scaled c xs)) (times c x) ≡ times c x
first_kept c x xs false e f some = refl
first_kept c x xs true e f some =
    let zero_x : x ≡ nil = no_zero_divisors c x (is_nil_true _ e) some in
    let t : is_nil x ≡ true = ap is_nil zero_x ∙ is_nil-nil in
    absurd (cc)

first_by : (c x : Omega) (xs : List Omega) (b : Bool) → is_nil x ≡ b → (c ≡ nil → ⊥) → first_entry (scaled c xs) ≡ times c (first_entry xs) → cond (is_nil (times c x)) (first_entry (scaled c xs)) (times c x) ≡ times c (cond b (first_entry xs) x)
first_by c x xs true e some rest =
    let zero_x : x ≡ nil = is_nil_true x e in
    ap (λ t. cond (is_nil t) (first_entry (scaled c xs)) (times c x)) (ap (times c) zero_x ∙ times-nil c)
    ∙ ap (λ t. cond t (first_entry (scaled c xs)) (times c x)) is_nil-nil ∙ rest
first_by c x xs false e some rest = first_kept c x xs (is_nil (times c x)) refl e some

pub first_entry-scaled : (c : Omega) (v : List Omega) → (c ≡ nil → ⊥) → first_entry (scaled c v) ≡ times c (first_entry v)
first_entry-scaled c [] some = sym (times-nil c)
first_entry-scaled c (x ∷ xs) some = first_by c x xs (is_nil x) refl some (first_entry-scaled c xs some)

-- ---- by its place
first_skip : (x : Omega) (xs : List Omega) (b : Bool) (z : Omega) → is_nil x ≡ b → is_nil x ≡ true → first_entry xs ≡ z → cond b (first_entry xs) x ≡ z
first_skip x xs true z e f g = g
first_skip x xs false z e f g = absurd (cc)

first_here : (x : Omega) (xs : List Omega) (b : Bool) → is_nil x ≡ b → is_nil x ≡ false → cond b (first_entry xs) x ≡ x
first_here x xs false e f = refl
first_here x xs true e f = absurd (cc)

-- where an entry isn't 0 and all before it are, it is the first
pub first_entry_at : (es : List Omega) (i : ℕ) → i < length es → ((k : ℕ) → k < i → is_nil (get_or es k nil) ≡ true) → is_nil (get_or es i nil) ≡ false → first_entry es ≡ get_or es i nil
first_entry_at [] i l h n = absurd (omega arith)
first_entry_at (x ∷ xs) zero l h n = first_here x xs (is_nil x) refl n
first_entry_at (x ∷ xs) (suc i) l h n = first_skip x xs (is_nil x) _ refl (h zero (omega arith)) (first_entry_at xs i (omega arith) (λ k m. h (suc k) (omega arith)) n)

pub first_entry_none : (es : List Omega) → ((k : ℕ) → k < length es → is_nil (get_or es k nil) ≡ true) → first_entry es ≡ nil
first_entry_none [] h = refl
first_entry_none (x ∷ xs) h = first_skip x xs (is_nil x) _ refl (h zero (omega arith)) (first_entry_none xs (λ k m. h (suc k) (omega arith)))

place_from : (x : Omega) (xs : List Omega) (b : Bool) → is_nil x ≡ b → (cond b (first_entry xs) x ≡ nil → ⊥) → ((first_entry xs ≡ nil → ⊥) → (i : ℕ) × ((i < length xs) × (get_or xs i nil ≡ first_entry xs))) → (i : ℕ) × ((i < length (x ∷ xs)) × (get_or (x ∷ xs) i nil ≡ cond b (first_entry xs) x))
place_from x xs true e some rest = let r = rest some in (suc r.0, (let l = r.1.0 in omega arith, r.1.1))
place_from x xs false e some rest = (zero, (omega arith, refl))

pub first_entry_place : (es : List Omega) → (first_entry es ≡ nil → ⊥) → (i : ℕ) × ((i < length es) × (get_or es i nil ≡ first_entry es))
first_entry_place [] some = absurd (some refl)
first_entry_place (x ∷ xs) some = place_from x xs (is_nil x) refl some (first_entry_place xs)

-- ---- it is 0 where all entries are
first_of_some : (x : Omega) (xs : List Omega) (b : Bool) → is_nil x ≡ b → (b && all_nil xs) ≡ false → (all_nil xs ≡ false → first_entry xs ≡ nil → ⊥) → cond b (first_entry xs) x ≡ nil → ⊥
first_of_some x xs true e f rest z = rest f z
first_of_some x xs false e f rest z = let t : is_nil x ≡ true = ap is_nil z ∙ is_nil-nil in absurd (cc)

pub some_first_entry : (es : List Omega) → all_nil es ≡ false → first_entry es ≡ nil → ⊥
some_first_entry [] e z = absurd (cc)
some_first_entry (x ∷ xs) e z = first_of_some x xs (is_nil x) refl e (some_first_entry xs) z

no_first_entry : (es : List Omega) → all_nil es ≡ true → first_entry es ≡ nil
no_first_entry [] e = refl
no_first_entry (x ∷ xs) e = first_skip x xs (is_nil x) nil refl (and_left (is_nil x) (all_nil xs) e) (no_first_entry xs (and_right (is_nil x) (all_nil xs) e))

not_true : (b : Bool) → (b ≡ true → ⊥) → b ≡ false
not_true false h = refl
not_true true h = absurd (h refl)

pub first_entry_of_some : (es : List Omega) → (first_entry es ≡ nil → ⊥) → all_nil es ≡ false
first_entry_of_some es some = not_true (all_nil es) (λ e. some (no_first_entry es e))
