-- Lists times a number, and what divides them.
use Rattle.std.proofs.Common.{◌≡◌, ℕ, zero, suc, ◌<◌, List, [], ◌∷◌, length, get_or, refl, sym, ap, ◌∙◌, arith}
use Rattle.qt_ring.specs.declared.omega.Omega.{Omega}
use Rattle.qt_ring.specs.Ring.{nil, one, times}
use Rattle.qt_ring.specs.Division.{Divides}
use Rattle.qt_ring.specs.Multiples.{scaled, DividesAll}
use Rattle.qt_ring.proofs.RingLaws.{times_assoc, times_comm, one-times}
use Rattle.qt_ring.proofs.Units.{cancelled}

pub scaled_scaled : (c d : Omega) (v : List Omega) → scaled c (scaled d v) ≡ scaled (times c d) v
scaled_scaled c d [] = refl
scaled_scaled c d (x ∷ xs) = ap (λ t. t ∷ scaled c (scaled d xs)) (sym (times_assoc c d x)) ∙ ap (λ t. times (times c d) x ∷ t) (scaled_scaled c d xs)

pub scaled_one : (v : List Omega) → scaled one v ≡ v
scaled_one [] = refl
scaled_one (x ∷ xs) = ap (λ t. t ∷ scaled one xs) (one-times x) ∙ ap (λ t. x ∷ t) (scaled_one xs)

pub scaled_cancel : (c : Omega) (v w : List Omega) → (c ≡ nil → ⊥) → scaled c v ≡ scaled c w → v ≡ w
scaled_cancel c [] [] some same = refl
scaled_cancel c [] (y ∷ ys) some same = absurd (cc)
scaled_cancel c (x ∷ xs) [] some same = absurd (cc)
scaled_cancel c (x ∷ xs) (y ∷ ys) some same =
    let head : times c x ≡ times c y = cc in
    let tail : scaled c xs ≡ scaled c ys = cc in
    ap (λ t. t ∷ xs) (cancelled c x y some head) ∙ ap (λ t. y ∷ t) (scaled_cancel c xs ys some tail)

-- ---- entry by entry
pub length-scaled : (d : Omega) (w v : List Omega) → scaled d w ≡ v → length w ≡ length v
length-scaled d [] [] e = refl
length-scaled d (y ∷ ys) [] e = absurd (cc)
length-scaled d [] (x ∷ xs) e = absurd (cc)
length-scaled d (y ∷ ys) (x ∷ xs) e =
    let tail : scaled d ys ≡ xs = cc in
    let long : length ys ≡ length xs = length-scaled d ys xs tail in
    omega arith

pub get_or-scaled : (d : Omega) (w v : List Omega) → scaled d w ≡ v → (i : ℕ) → i < length v → times d (get_or w i nil) ≡ get_or v i nil
get_or-scaled d [] [] e i l = absurd (omega arith)
get_or-scaled d (y ∷ ys) [] e i l = absurd (omega arith)
get_or-scaled d [] (x ∷ xs) e i l = absurd (cc)
get_or-scaled d (y ∷ ys) (x ∷ xs) e zero l = let head : times d y ≡ x = cc in head
get_or-scaled d (y ∷ ys) (x ∷ xs) e (suc i) l = let tail : scaled d ys ≡ xs = cc in get_or-scaled d ys xs tail i (omega arith)

pub scaled_by_index : (c : Omega) (u v : List Omega) → length u ≡ length v → ((i : ℕ) → i < length v → times c (get_or u i nil) ≡ get_or v i nil) → scaled c u ≡ v
scaled_by_index c [] [] e h = refl
scaled_by_index c [] (y ∷ ys) e h = absurd (omega arith)
scaled_by_index c (x ∷ xs) [] e h = absurd (omega arith)
scaled_by_index c (x ∷ xs) (y ∷ ys) e h =
    ap (λ t. t ∷ scaled c xs) (h zero (omega arith))
    ∙ ap (λ t. y ∷ t) (scaled_by_index c xs ys (omega arith) (λ i l. h (suc i) (omega arith)))

-- ---- divisors of all entries
pub divides_each : (d : Omega) (v : List Omega) → DividesAll d v → (i : ℕ) → i < length v → Divides d (get_or v i nil)
divides_each d v (w, e) i l = (get_or w i nil, get_or-scaled d w v e i l)

pub divides_list : (d : Omega) (v : List Omega) → ((i : ℕ) → i < length v → Divides d (get_or v i nil)) → DividesAll d v
divides_list d [] h = ([], refl)
divides_list d (x ∷ xs) h =
    let head : Divides d x = h zero (omega arith) in
    let tail : DividesAll d xs = divides_list d xs (λ i l. h (suc i) (omega arith)) in
    (head.0 ∷ tail.0, ap (λ t. t ∷ scaled d tail.0) head.1 ∙ ap (λ t. x ∷ t) tail.1)

-- a divisor of a list divides each multiple of it
pub divides_scaled : (d c : Omega) (v : List Omega) → DividesAll d v → DividesAll d (scaled c v)
divides_scaled d c v (w, e) = (scaled c w, scaled_scaled d c w ∙ ap (λ t. scaled t w) (times_comm d c) ∙ sym (scaled_scaled c d w) ∙ ap (scaled c) e)

-- ---- divisors that are products
pub divides_first : (d e : Omega) (v : List Omega) → DividesAll (times d e) v → DividesAll d v
divides_first d e v (w, f) = (scaled e w, scaled_scaled d e w ∙ f)

-- what is left over d is divided by e where d·e divides the list
pub divides_rest : (d e : Omega) (w v : List Omega) → (d ≡ nil → ⊥) → scaled d w ≡ v → DividesAll (times d e) v → DividesAll e w
divides_rest d e w v some f (z, g) = (z, scaled_cancel d (scaled e z) w some (scaled_scaled d e z ∙ g ∙ sym f))

pub divides_product : (d e : Omega) (w v : List Omega) → scaled d w ≡ v → DividesAll e w → DividesAll (times d e) v
divides_product d e w v f (z, g) = (z, sym (scaled_scaled d e z) ∙ ap (scaled d) g ∙ f)

pub divides_as : (d e : Omega) (v : List Omega) → d ≡ e → DividesAll d v → DividesAll e v
divides_as d e v f (w, g) = (w, ap (λ t. scaled t w) (sym f) ∙ g)
