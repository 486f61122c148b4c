-- Numbers one step apart, and the elements of a list at such places.
use Rattle.std.proofs.Common.{◌≡◌, ℕ, zero, suc, ◌+◌, ◌-◌, ◌*◌, ◌<◌, ◌≤◌, List, [], ◌∷◌, ◌++◌, map, length, slice_get, filter_map, Option, Some, None, is_some, true, refl, ap, ap₂, ◌∙◌, arith, suc-add, zero-add, suc-mul, add_assoc}
use Rattle.std.specs.List.{cons_option}
use Rattle.std.specs.Option.{option_map}
use Rattle.std.proofs.lemmas.Option.{slice_get-map}
use Rattle.std.proofs.lemmas.List.Elements.{filter_map-append}
use Rattle.qt_registers.specs.Registers.{progression, stepped}
use Rattle.qt_registers.specs.declared.fixed.FixedQubit.{FixedQubit}

-- ---- numbers

pub length-progression : (start step count : ℕ) → length (progression start step count) ≡ count
unfolding progression
length-progression start step zero = refl
length-progression start step (suc count) = ap suc (length-progression (start + step) step count)

pub slice_get-progression : (start step count i : ℕ) → i < count → slice_get (progression start step count) i ≡ Some (start + i * step)
unfolding progression
slice_get-progression start step zero i h = absurd (omega arith)
slice_get-progression start step (suc count) zero h =
    let e : start ≡ start + zero * step = omega arith in
    ap Some e
slice_get-progression start step (suc count) (suc i) h =
    let e : start + step + i * step ≡ start + suc i * step = omega (arith, suc-mul i step) in
    slice_get-progression (start + step) step count i (omega arith) ∙ ap Some e

pub progression-add : (start step m n : ℕ) → progression start step (m + n) ≡ progression start step m ++ progression (start + m * step) step n
unfolding progression
progression-add start step zero n =
    let e : start ≡ start + zero * step = omega arith in
    ap (progression start step) (zero-add n) ∙ ap (λ s. progression s step n) e
progression-add start step (suc m) n =
    let e : start + step + m * step ≡ start + suc m * step = omega (arith, suc-mul m step) in
    ap (progression start step) (suc-add m n)
    ∙ ap (λ l. start ∷ l) (progression-add (start + step) step m n ∙ ap (λ s. progression (start + step) step m ++ progression s step n) e)

-- one number has no step
pub progression_same : (start step other count : ℕ) → (2 ≤ count → step ≡ other) → progression start step count ≡ progression start other count
unfolding progression
progression_same start step other zero h = refl
progression_same start step other (suc zero) h = refl
progression_same start step other (suc (suc n)) h = ap (λ s. progression start s (suc (suc n))) (h (omega arith))

-- ---- elements

pub slice_get-append_left : {X : Type 0} (xs ys : List X) (i : ℕ) → i < length xs → slice_get (xs ++ ys) i ≡ slice_get xs i
slice_get-append_left [] ys i h = absurd (omega arith)
slice_get-append_left (x ∷ xs) ys zero h = refl
slice_get-append_left (x ∷ xs) ys (suc i) h = slice_get-append_left xs ys i (omega arith)

pub slice_get-append_right : {X : Type 0} (xs ys : List X) (i : ℕ) → slice_get (xs ++ ys) (length xs + i) ≡ slice_get ys i
slice_get-append_right [] ys i = ap (slice_get ys) (zero-add i)
slice_get-append_right (x ∷ xs) ys i = ap (slice_get (x ∷ (xs ++ ys))) (suc-add (length xs) i) ∙ slice_get-append_right xs ys i

slice_get-within : {X : Type 0} (xs : List X) (i : ℕ) → i < length xs → is_some (slice_get xs i) ≡ true
slice_get-within [] i h = absurd (omega arith)
slice_get-within (x ∷ xs) zero h = refl
slice_get-within (x ∷ xs) (suc i) h = slice_get-within xs i (omega arith)

length-cons_option : {X : Type 0} (o : Option X) (xs : List X) → is_some o ≡ true → length (cons_option o xs) ≡ suc (length xs)
length-cons_option None xs h = cc
length-cons_option (Some x) xs h = refl

-- as many as there are places
pub length-stepped : (xs : List FixedQubit) (start step count : ℕ) → ((i : ℕ) → i < count → start + i * step < length xs) → length (stepped xs start step count) ≡ count
unfolding stepped progression
length-stepped xs start step zero h = refl
length-stepped xs start step (suc n) h =
    let here : start < length xs = omega (arith, h 0) in
    let later : (i : ℕ) → i < n → start + step + i * step < length xs = λ i l. omega (arith, h (suc i), suc-mul i step) in
    length-cons_option (slice_get xs start) (stepped xs (start + step) step n) (slice_get-within xs start here)
    ∙ ap suc (length-stepped xs (start + step) step n later)

-- so many of the elements are in the first list, and the others behind it
pub stepped-left : (xs ys : List FixedQubit) (start step count : ℕ) → ((i : ℕ) → i < count → start + i * step < length xs) → stepped (xs ++ ys) start step count ≡ stepped xs start step count
unfolding stepped progression
stepped-left xs ys start step zero h = refl
stepped-left xs ys start step (suc n) h =
    let here : start < length xs = omega (arith, h 0) in
    let later : (i : ℕ) → i < n → start + step + i * step < length xs = λ i l. omega (arith, h (suc i), suc-mul i step) in
    ap₂ cons_option (slice_get-append_left xs ys start here) (stepped-left xs ys (start + step) step n later)

pub stepped-right : (xs ys : List FixedQubit) (start step count : ℕ) → stepped (xs ++ ys) (length xs + start) step count ≡ stepped ys start step count
unfolding stepped progression
stepped-right xs ys start step zero = refl
stepped-right xs ys start step (suc n) =
    ap₂ cons_option (slice_get-append_right xs ys start)
    (ap (λ s. stepped (xs ++ ys) s step n) (add_assoc (length xs) start step) ∙ stepped-right xs ys (start + step) step n)

stepped_behind : (xs ys : List FixedQubit) (start step count : ℕ) → (0 < count → length xs ≤ start) → stepped (xs ++ ys) start step count ≡ stepped ys (start - length xs) step count
unfolding stepped progression
stepped_behind xs ys start step zero h = refl
stepped_behind xs ys start step (suc n) h =
    let behind : length xs ≤ start = h (omega arith) in
    let at : start ≡ length xs + (start - length xs) = omega arith in
    ap (λ s. stepped (xs ++ ys) s step (suc n)) at ∙ stepped-right xs ys (start - length xs) step (suc n)

pub stepped-append : (xs ys : List FixedQubit) (start step m n : ℕ) → ((i : ℕ) → i < m → start + i * step < length xs) → (0 < n → length xs ≤ start + m * step) → stepped (xs ++ ys) start step (m + n) ≡ stepped xs start step m ++ stepped ys (start + m * step - length xs) step n
unfolding stepped
stepped-append xs ys start step m n inside outside =
    ap (filter_map (slice_get (xs ++ ys))) (progression-add start step m n)
    ∙ filter_map-append (slice_get (xs ++ ys)) (progression start step m) (progression (start + m * step) step n)
    ∙ ap₂ ◌++◌ (stepped-left xs ys start step m inside) (stepped_behind xs ys (start + m * step) step n outside)

-- elements that are made of numbers one step apart
pub stepped-map : (qubit : ℕ → FixedQubit) (first by size start step count : ℕ) → ((i : ℕ) → i < count → start + i * step < size) → stepped (map qubit (progression first by size)) start step count ≡ map qubit (progression (first + start * by) (by * step) count)
unfolding stepped progression
stepped-map qubit first by size start step zero h = refl
stepped-map qubit first by size start step (suc n) h =
    let here : start < size = omega (arith, h 0) in
    let later : (i : ℕ) → i < n → start + step + i * step < size = λ i l. omega (arith, h (suc i), suc-mul i step) in
    let e : first + (start + step) * by ≡ first + start * by + by * step = omega arith in
    ap₂ cons_option
    (slice_get-map qubit (progression first by size) start ∙ ap (option_map qubit) (slice_get-progression first by size start here))
    (stepped-map qubit first by size (start + step) step n later ∙ ap (λ s. map qubit (progression s (by * step) n)) e)
