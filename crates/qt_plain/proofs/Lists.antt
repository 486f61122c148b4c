-- Lists that a loop builds entry by entry, and sums over their beginnings.
use Rattle.std.proofs.Common.{◌≡◌, ℕ, zero, suc, ◌+◌, ◌-◌, ◌^◌, ◌<◌, ◌≤◌, ◌&&◌, List, [], ◌∷◌, ◌++◌, length, map, take, get_or, replicate, refl, sym, ap, ◌∙◌, arith, ℤ, pos, ◌+ℤ◌}
use Rattle.std.specs.List.{range_with_len, list_all}
use Rattle.std.proofs.lemmas.List.FromFn.{map-range_with_len_more, fill_by_all}
use Rattle.std.proofs.lemmas.Int.{ints}
use Rattle.qt_ring.specs.declared.omega.Omega.{Omega}
use Rattle.qt_ring.specs.Ring.{nil, one, is_nil, norm_a, norm_b}
use Rattle.qt_ring.specs.State.{State, zero_state, all_nil, total_a, total_b}

-- one more entry is pushed
pub pushed : (f : ℕ → Omega) (i : ℕ) (x : Omega) (xs ys : List Omega) → xs ≡ map f (range_with_len 0 i) → x ≡ f i → ys ≡ xs ++ x ∷ [] → ys ≡ map f (range_with_len 0 (i + 1))
pushed f i x xs ys h e p = p ∙ ap (λ zs. zs ++ x ∷ []) h ∙ ap (λ y. map f (range_with_len 0 i) ++ y ∷ []) e ∙ sym (map-range_with_len_more f 0 i i (omega arith))

-- the list of all entries of a list
pub all_pushed : (n : ℕ) (xs ys : List Omega) → length xs ≡ n → ys ≡ map (λ i. get_or xs i nil) (range_with_len 0 n) → ys ≡ xs
all_pushed n xs ys l h = h ∙ sym (fill_by_all (λ i. get_or xs i nil) xs n nil l (λ k m. refl))

pub replicate_more : (n : ℕ) (x : Omega) → replicate n x ++ x ∷ [] ≡ replicate (n + 1) x
replicate_more zero x = refl
replicate_more (suc n) x = let e : suc n + 1 ≡ suc (n + 1) = omega arith in ap (λ xs. x ∷ xs) (replicate_more n x) ∙ ap (λ k. replicate k x) (sym e)

pub all_nil-list_all : (es : List Omega) → list_all is_nil es ≡ all_nil es
all_nil-list_all [] = refl
all_nil-list_all (e ∷ es) = ap (λ b. is_nil e && b) (all_nil-list_all es)

zero-add : (a : ℤ) → pos 0 +ℤ (a +ℤ pos 0) ≡ a
zero-add a = omega (arith, ints)

pub total_a_more : (es : List Omega) (i : ℕ) → i < length es → total_a (take (i + 1) es) ≡ total_a (take i es) +ℤ norm_a (get_or es i nil)
total_a_more [] i h = absurd (omega arith)
total_a_more (e ∷ es) zero h = omega (arith, ints)
total_a_more (e ∷ es) (suc i) h =
    let n : suc i + 1 ≡ suc (i + 1) = omega arith in
    let t : total_a (take (i + 1) es) ≡ total_a (take i es) +ℤ norm_a (get_or es i nil) = total_a_more es i (omega arith) in
    ap (λ k. total_a (take k (e ∷ es))) n ∙ ap (λ z. norm_a e +ℤ z) t ∙ omega (arith, ints)

pub total_b_more : (es : List Omega) (i : ℕ) → i < length es → total_b (take (i + 1) es) ≡ total_b (take i es) +ℤ norm_b (get_or es i nil)
total_b_more [] i h = absurd (omega arith)
total_b_more (e ∷ es) zero h = omega (arith, ints)
total_b_more (e ∷ es) (suc i) h =
    let n : suc i + 1 ≡ suc (i + 1) = omega arith in
    let t : total_b (take (i + 1) es) ≡ total_b (take i es) +ℤ norm_b (get_or es i nil) = total_b_more es i (omega arith) in
    ap (λ k. total_b (take k (e ∷ es))) n ∙ ap (λ z. norm_b e +ℤ z) t ∙ omega (arith, ints)

-- ---- the state of all zeros, entry by entry

pub zeros_more : (i : ℕ) (xs ys : List Omega) → 1 ≤ i → xs ≡ one ∷ replicate (i - 1) nil → ys ≡ xs ++ nil ∷ [] → ys ≡ one ∷ replicate (i + 1 - 1) nil
zeros_more i xs ys l h p =
    let e : i - 1 + 1 ≡ i + 1 - 1 = omega arith in
    p ∙ ap (λ zs. zs ++ nil ∷ []) h ∙ ap (λ zs. one ∷ zs) (replicate_more (i - 1) nil) ∙ ap (λ k. one ∷ replicate k nil) e

pub zeros_are : (n i : ℕ) (xs : List Omega) → i ≡ 2 ^ n → xs ≡ one ∷ replicate (i - 1) nil → (let s : State = record { qubits = n; entries = xs; halvings = 0 } in s ≡ zero_state n)
unfolding zero_state
zeros_are n i xs e h = ap (λ (es : List Omega). record { qubits = n; entries = es; halvings = 0 }) (h ∙ ap (λ k. one ∷ replicate (k - 1) nil) e)
