-- Places that indexes are written for.
use Rattle.std.proofs.Common.{◌≡◌, ℕ, suc, ◌+◌, ◌-◌, ◌%◌, ◌^◌, ◌<◌, ◌⊎◌, inl, inr, nat_lt, if◌then◌else◌, cond, ℤ, pos, negsuc, ◌+ℤ◌, ◌-ℤ◌, Some, None, Bool, true, false, Ok, Err, option_map, refl, ap, ◌∙◌, arith}
use Rattle.std.proofs.lemmas.Bool.{lt-ltb, ltb-true}
use Rattle.std.proofs.lemmas.Int.{ints}
use Rattle.std.proofs.Math.Nat.{mod-eq_of_lt, add-mod_right}
use Rattle.qt_value.specs.Casts.{row}
use Rattle.qt_value.specs.Numbers.{number, residue}
use Rattle.qt_value.specs.Places.{place_of}
use Rattle.qt_value.specs.Types.{is_whole}
use Rattle.qt_value.specs.declared.fault.ValueFault.TheVariants as value_fault
use Rattle.qt_value.specs.declared.types.ValueType.{ValueType}
use Rattle.qt_value.specs.declared.types.ValueType.TheVariants as kind
use Rattle.qt_meaning.specs.Values.{evaluated, bits_in, or_zero, converted_to, lowest, number_of, place_in}
use Rattle.qt_flat_code.specs.Expressions.{place_kind}
use Rattle.qt_flat_expressions.proofs.Numbers.{IsSmall}

-- ---- places that are written as they are

natural_place : (n x : ℕ) → x < n → evaluated (place_of (pos x) n) ≡ Ok x
natural_place n x h = ap (λ b. evaluated (if b then Ok x else Err value_fault.Index)) (lt-ltb x n h)

pub byte_place : (n x : ℕ) → x < n → x < 256 → place_in n (kind.Uint 8) x ≡ Ok x
unfolding place_in number_of
byte_place n x h b =
    let e : x % 2 ^ 8 ≡ x = mod-eq_of_lt (omega arith) in
    ap (λ y. evaluated (place_of (pos y) n)) e ∙ natural_place n x h

pub whole_place : (n x : ℕ) → x < n → n < 2 ^ 63 → place_in n place_kind x ≡ Ok x
unfolding place_in number_of
whole_place n x h b =
    let e : x % 2 ^ 64 ≡ x = mod-eq_of_lt (omega arith) in
    let low : x < 2 ^ 63 = omega arith in
    ap (λ y. evaluated (place_of (number place_kind y) n)) e
    ∙ ap (λ (t : Bool). evaluated (place_of (cond t (pos x) (pos x -ℤ pos (2 ^ 64))) n)) (lt-ltb x (2 ^ 63) low)
    ∙ natural_place n x h

-- ---- what a place says of the index

-- an index of n places is the place, or so far before it
pub record IsWritten (z : ℤ) (n place : ℕ) : Type 0 where
  pub below : place < n
  pub from : (z ≡ pos place) ⊎ (z +ℤ pos n ≡ pos place)

written_by : (z : ℤ) (n place : ℕ) → evaluated (place_of z n) ≡ Ok place → IsWritten z n place
written_by (pos i) n place h = by_test (nat_lt i n) refl h
  where
    by_test : (b : Bool) → nat_lt i n ≡ b → evaluated (if b then Ok i else Err value_fault.Index) ≡ Ok place → IsWritten (pos i) n place
    by_test true e g =
        let same : i ≡ place = cc in
        let lt = ltb-true i n e in
        record { below = omega arith; from = inl (ap pos same) }
    by_test false e g = cc
written_by (negsuc i) n place h = by_test (nat_lt i n) refl h
  where
    by_test : (b : Bool) → nat_lt i n ≡ b → evaluated (if b then Ok (n - suc i) else Err value_fault.Index) ≡ Ok place
        → IsWritten (negsuc i) n place
    by_test true e g =
        let same : n - suc i ≡ place = cc in
        let lt = ltb-true i n e in
        record { below = omega arith; from = inr (omega (arith, ints)) }
    by_test false e g = cc

pub written : (n : ℕ) (of : ValueType) (x place : ℕ) → place_in n of x ≡ Ok place → IsWritten (number_of of x) n place
unfolding place_in
written n of x place h = written_by (number_of of x) n place h

small_by : (z : ℤ) (n place : ℕ) → n < 2 ^ 63 → place < n → (z ≡ pos place) ⊎ (z +ℤ pos n ≡ pos place) → IsSmall z
small_by (pos i) n place b h (inl e) = omega (arith, ints, e)
small_by (pos i) n place b h (inr e) = omega (arith, ints, e)
small_by (negsuc i) n place b h (inl e) = omega (arith, ints, e)
small_by (negsuc i) n place b h (inr e) = omega (arith, ints, e)

pub written_small : (z : ℤ) (n place : ℕ) → n < 2 ^ 63 → IsWritten z n place → IsSmall z
written_small z n place b w = small_by z n place b w.below w.from

-- with the number of places it is the place, or so far behind it
pub written_sum : (z : ℤ) (n place : ℕ) → IsWritten z n place → (m : ℕ) × (z +ℤ pos n ≡ pos m) × (m % n ≡ place) × (m < n + n)
written_sum z n place w = by_side w.from
  where
    lt : place < n
    lt = w.below

    by_side : (z ≡ pos place) ⊎ (z +ℤ pos n ≡ pos place) → (m : ℕ) × (z +ℤ pos n ≡ pos m) × (m % n ≡ place) × (m < n + n)
    by_side (inl e) = let below = lt in (place + n, ap (λ y. y +ℤ pos n) e, add-mod_right place n ∙ mod-eq_of_lt below, omega arith)
    by_side (inr e) = let below = lt in (place, e, mod-eq_of_lt below, omega arith)

-- ---- an index as a number of places

to_place : (from : ValueType) (x : ℕ) → is_whole from ≡ true → or_zero (option_map bits_in (option_map (λ bits. record { kind = place_kind; bits = bits }) (row from x place_kind))) ≡ residue 64 (number from x)
to_place from x h = ap (λ t. or_zero (option_map bits_in (option_map (λ bits. record { kind = place_kind; bits = bits }) (cond t (Some (residue 64 (number from x))) None)))) h

pub converted_place : (of : ValueType) (x : ℕ) → is_whole of ≡ true → converted_to place_kind of x ≡ residue 64 (number_of of x)
unfolding converted_to number_of
converted_place of x h = to_place of (lowest of x) h
