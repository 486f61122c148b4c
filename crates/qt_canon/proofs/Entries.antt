-- What divides the first entries of a list, one more at a time.
use Rattle.std.proofs.Common.{◌≡◌, ℕ, zero, suc, ◌+◌, ◌<◌, ◌≤◌, List, [], ◌∷◌, ◌++◌, take, length, get_or, refl, sym, ap, subst, ◌∙◌, arith}
use Rattle.std.proofs.lemmas.List.{take_more, take_all}
use Rattle.qt_ring.specs.declared.omega.Omega.{Omega}
use Rattle.qt_ring.specs.Ring.{times}
use Rattle.qt_ring.specs.Division.{Divides}
use Rattle.qt_ring.specs.Multiples.{scaled, DividesAll}

pub scaled-append : (d : Omega) (v w : List Omega) → scaled d (v ++ w) ≡ scaled d v ++ scaled d w
scaled-append d [] w = refl
scaled-append d (x ∷ xs) w = ap (λ t. times d x ∷ t) (scaled-append d xs w)

divides_push : (d y : Omega) (v : List Omega) → DividesAll d v → Divides d y → DividesAll d (v ++ y ∷ [])
divides_push d y v (w, e) (z, f) = (w ++ z ∷ [], scaled-append d w (z ∷ []) ∙ ap (λ t. t ++ times d z ∷ []) e ∙ ap (λ t. v ++ t ∷ []) f)

divides_pop : (d y : Omega) (v w : List Omega) → scaled d w ≡ v ++ y ∷ [] → DividesAll d v × Divides d y
divides_pop d y [] [] e = absurd (cc)
divides_pop d y [] (z ∷ zs) e = let head : times d z ≡ y = cc in (([], refl), (z, head))
divides_pop d y (x ∷ xs) [] e = absurd (cc)
divides_pop d y (x ∷ xs) (z ∷ zs) e =
    let head : times d z ≡ x = cc in
    let tail : scaled d zs ≡ xs ++ y ∷ [] = cc in
    let r = divides_pop d y xs zs tail in
    ((z ∷ r.0.0, ap (λ t. t ∷ scaled d r.0.0) head ∙ ap (λ t. x ∷ t) r.0.1), r.1)

pub divides_more : (d : Omega) (v : List Omega) (i : ℕ) (e : Omega) → i < length v → DividesAll d (take i v) → Divides d (get_or v i e) → DividesAll d (take (i + 1) v)
divides_more d v i e l h k = let P : List Omega → Type 0 = DividesAll d in subst P (sym (take_more v i e l)) (divides_push d (get_or v i e) (take i v) h k)

pub divides_less : (d : Omega) (v : List Omega) (i : ℕ) (e : Omega) → i < length v → DividesAll d (take (i + 1) v) → DividesAll d (take i v) × Divides d (get_or v i e)
divides_less d v i e l (w, f) = divides_pop d (get_or v i e) (take i v) w (f ∙ take_more v i e l)

pub divides_taken : (d : Omega) (v : List Omega) (i : ℕ) → length v ≤ i → DividesAll d (take i v) → DividesAll d v
divides_taken d v i l h = let P : List Omega → Type 0 = DividesAll d in subst P (take_all i v l) h

pub divides_at : (d : Omega) (v : List Omega) (i : ℕ) (e : Omega) → i < length v → DividesAll d v → Divides d (get_or v i e)
divides_at d [] i e l m = absurd (omega arith)
divides_at d (x ∷ xs) i e l ([], f) = absurd (cc)
divides_at d (x ∷ xs) zero e l (z ∷ zs, f) = let head : times d z ≡ x = cc in (z, head)
divides_at d (x ∷ xs) (suc i) e l (z ∷ zs, f) = let tail : scaled d zs ≡ xs = cc in divides_at d xs i e (omega arith) (zs, tail)
