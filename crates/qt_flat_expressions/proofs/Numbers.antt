-- Places are reckoned on 64 bits with a sign: small numbers come out as they are.
use Rattle.std.proofs.Common.{◌≡◌, ℕ, suc, ◌+◌, ◌-◌, ◌*◌, ◌%◌, ◌^◌, ◌<◌, ◌≤◌, cond, ℤ, pos, negsuc, ◌+ℤ◌, ◌-ℤ◌, ◌*ℤ◌, false, Ok, refl, sym, ap, ◌∙◌, arith, rules, ◌&&◌, nat_le, option_map, Some, None}
use Rattle.std.proofs.lemmas.Bool.{lt-ltb, le-ltb}
use Rattle.std.proofs.lemmas.Int.{ints}
use Rattle.std.proofs.Math.Nat.{mod-eq_of_lt, mod-lt}
use Rattle.std.specs.Prelude.{int_rem}
use Rattle.qt_value.specs.Numbers.{number, residue, signed_number}
use Rattle.qt_value.specs.Results.{int_eq, number_at}
use Rattle.qt_value.specs.declared.operators.Op.TheVariants as op
use Rattle.qt_meaning.specs.Values.{Divide, or_fault, bits_in, lowest, operated}
use Rattle.qt_flat_code.specs.Expressions.{place_kind}

-- ---- numbers

abbrev pub IsSmall : ℤ → Type 0
IsSmall (pos x) = x < 2 ^ 63
IsSmall (negsuc i) = i < 2 ^ 63

pub residue_below : (z : ℤ) → residue 64 z < 2 ^ 64
residue_below (pos x) = mod-lt x (omega arith)
residue_below (negsuc i) = let h : i % 2 ^ 64 < 2 ^ 64 = mod-lt i (omega arith) in omega arith

signed_low : (x : ℕ) → x < 2 ^ 63 → signed_number 64 x ≡ pos x
signed_low x h = ap (λ b. cond b (pos x) (pos x -ℤ pos (2 ^ 64))) (lt-ltb x (2 ^ 63) h)

signed_high : (x : ℕ) → 2 ^ 63 ≤ x → signed_number 64 x ≡ pos x -ℤ pos (2 ^ 64)
signed_high x h = ap (λ b. cond b (pos x) (pos x -ℤ pos (2 ^ 64))) (le-ltb x (2 ^ 63) h)

-- the bits of a small number are read as it
pub signed_back : (z : ℤ) → IsSmall z → signed_number 64 (residue 64 z) ≡ z
signed_back (pos x) h =
    let e : x % 2 ^ 64 ≡ x = mod-eq_of_lt (omega arith) in
    ap (signed_number 64) e ∙ signed_low x h
signed_back (negsuc i) h =
    let e : i % 2 ^ 64 ≡ i = mod-eq_of_lt (omega arith) in
    let f : residue 64 (negsuc i) ≡ 2 ^ 64 - 1 - i = ap (λ m. 2 ^ 64 - 1 - m) e in
    ap (signed_number 64) f ∙ signed_high (2 ^ 64 - 1 - i) (omega arith) ∙ omega (arith, ints)

-- what an operator makes of a cell, where both operands are numbers of places
abbrev pub read : ℕ → ℤ
read bits = number_at place_kind (number place_kind (lowest place_kind bits))

pub read_small : (z : ℤ) → IsSmall z → read (residue 64 z) ≡ z
read_small z h =
    let e : residue 64 z % 2 ^ 64 ≡ residue 64 z = mod-eq_of_lt (residue_below z) in
    ap (λ b. number_at place_kind (signed_number 64 b)) e ∙ ap (λ y. signed_number 64 (residue 64 y)) (signed_back z h) ∙ signed_back z h

pub natural : (x : ℕ) → x < 2 ^ 64 → residue 64 (pos x) ≡ x
natural x h = mod-eq_of_lt h

read_natural : (x : ℕ) → x < 2 ^ 63 → read x ≡ pos x
read_natural x h = ap read (sym (natural x (omega arith))) ∙ read_small (pos x) h

-- ---- operators

add_is : (x y : ℕ) → operated op.Add place_kind place_kind x y ≡ Ok (residue 64 (read x +ℤ read y))
unfolding operated
add_is x y = refl

mul_is : (x y : ℕ) → operated op.Mul place_kind place_kind x y ≡ Ok (residue 64 (read x *ℤ read y))
unfolding operated
mul_is x y = refl

not_zero : (b : ℕ) → int_eq (pos (suc b)) (pos 0) ≡ false
not_zero b = let h : nat_le (suc b) 0 ≡ false = search rules in ap (λ t. t && nat_le 0 (suc b)) h

rem_is : (x y : ℕ) (b : ℕ) → read y ≡ pos (suc b) → operated op.Rem place_kind place_kind x y ≡ Ok (residue 64 (int_rem (read x) (read y)))
unfolding operated
rem_is x y b e =
    ap (λ t. or_fault Divide (option_map bits_in (cond t None (Some (record { kind = place_kind; bits = residue 64 (int_rem (read x) (read y)) })))))
    (ap (λ d. int_eq d (pos 0)) e ∙ not_zero b)

-- a small number and a length, together at least 0
pub added : (z : ℤ) (n m : ℕ) → IsSmall z → n < 2 ^ 63 → m < 2 ^ 64 → z +ℤ pos n ≡ pos m
    → operated op.Add place_kind place_kind (residue 64 z) n ≡ Ok m
added z n m h g l e =
    add_is (residue 64 z) n
    ∙ ap (λ y. Ok (residue 64 (y +ℤ read n))) (read_small z h)
    ∙ ap (λ y. Ok (residue 64 (z +ℤ y))) (read_natural n g)
    ∙ ap (λ y. Ok (residue 64 y)) e
    ∙ ap Ok (natural m l)

pub sum : (x y : ℕ) → x < 2 ^ 63 → y < 2 ^ 63 → operated op.Add place_kind place_kind x y ≡ Ok (x + y)
sum x y h g =
    ap (λ b. operated op.Add place_kind place_kind b y) (sym (natural x (omega arith)))
    ∙ added (pos x) y (x + y) h g (omega arith) refl

pub product : (x y : ℕ) → x < 2 ^ 63 → y < 2 ^ 63 → x * y < 2 ^ 64 → operated op.Mul place_kind place_kind x y ≡ Ok (x * y)
product x y h g l =
    mul_is x y
    ∙ ap (λ z. Ok (residue 64 (z *ℤ read y))) (read_natural x h)
    ∙ ap (λ z. Ok (residue 64 (pos x *ℤ z))) (read_natural y g)
    ∙ ap Ok (natural (x * y) l)

-- 0 times a number of places that may be any
pub none_of : (y : ℕ) → operated op.Mul place_kind place_kind 0 y ≡ Ok 0
none_of y =
    mul_is 0 y
    ∙ ap (λ z. Ok (residue 64 (z *ℤ read y))) (read_natural 0 (omega arith))
    ∙ ap (λ z. Ok (residue 64 z)) (zero_times (read y))
    ∙ ap Ok (natural 0 (omega arith))
  where
    zero_times : (z : ℤ) → pos 0 *ℤ z ≡ pos 0
    zero_times (pos n) = omega (arith, ints)
    zero_times (negsuc n) = omega (arith, ints)

pub rest : (x b : ℕ) → x < 2 ^ 63 → suc b < 2 ^ 63 → operated op.Rem place_kind place_kind x (suc b) ≡ Ok (x % suc b)
rest x b h g =
    let below : x % suc b < suc b = mod-lt x (omega arith) in
    rem_is x (suc b) b (read_natural (suc b) g)
    ∙ ap (λ z. Ok (residue 64 (int_rem z (read (suc b))))) (read_natural x h)
    ∙ ap (λ z. Ok (residue 64 (int_rem (pos x) z))) (read_natural (suc b) g)
    ∙ ap Ok (natural (x % suc b) (omega arith))
