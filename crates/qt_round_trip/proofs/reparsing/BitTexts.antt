-- A text with as many binary digits as a bit string is a bit string.
use Rattle.std.proofs.Common.{◌≡◌, ℕ, zero, suc, ◌+◌, ◌-◌, ◌≤◌, not, ◌&&◌, Bool, true, false, eqb, leb, cond, List, length, refl, sym, ap, subst, arith}
use Rattle.qt_lex.specs.declared.number.Radix.TheVariants.{Binary}
use Rattle.qt_lex.specs.Bytes.{byte}
use Rattle.qt_lex.specs.Numbers.{is_digit_of}
use Rattle.qt_lex.specs.Bits.{each_goes_on, are_bits, digit_count}
use Rattle.qt_lex.proofs.Tables.{and_left, and_right}
use Rattle.qt_terminals.specs.Literals.{is_bit_text, bit_count}

no_underscore : (c : ℕ) → (leb 48 c && leb c 49) ≡ true → eqb c 95 ≡ false
no_underscore c h = grind arith

digits_some : (b : ℕ → ℕ) (i n : ℕ) → are_bits b i n ≡ true → 1 ≤ digit_count b i n
digits_some b i zero h = cc h
digits_some b i (suc n) h =
    let last : is_digit_of Binary (b (i + suc n - 1)) ≡ true = and_right (each_goes_on b i (suc n)) (is_digit_of Binary (b (i + suc n - 1)))
    (and_right (is_digit_of Binary (b i)) (each_goes_on b i (suc n) && is_digit_of Binary (b (i + suc n - 1))) (and_right (not (eqb (suc n) 0)) (is_digit_of Binary (b i) && (each_goes_on b i (suc n) && is_digit_of Binary (b (i + suc n - 1)))) h)) in
    let at : i + suc n - 1 ≡ i + n = omega arith in
    let digit : eqb (b (i + n)) 95 ≡ false = no_underscore (b (i + n)) (subst (λ t. is_digit_of Binary (b t) ≡ true) at last) in
    subst (λ t. 1 ≤ cond t (digit_count b i n) (digit_count b i n + 1)) (sym digit) (omega arith)

some_digits : (text : List ℕ) → is_bit_text text ≡ true → 1 ≤ bit_count text
unfolding is_bit_text bit_count
some_digits text h =
    let some : 1 ≤ digit_count (byte text) 1 (length text - 2) = digits_some (byte text) 1 (length text - 2) (and_left (are_bits (byte text) 1 (length text - 2)) (leb (digit_count (byte text) 1 (length text - 2)) 64) h) in
    subst (λ t. 1 ≤ cond t (digit_count (byte text) 1 (length text - 2)) 0) (sym h) some

none_digits : (text : List ℕ) → is_bit_text text ≡ false → bit_count text ≡ 0
unfolding bit_count
none_digits text h = ap (λ t. cond t (digit_count (byte text) 1 (length text - 2)) 0) h

pub bit_text_again : (text printed : List ℕ) → is_bit_text text ≡ true → bit_count printed ≡ bit_count text → is_bit_text printed ≡ true
bit_text_again text printed h same = at_test (is_bit_text printed) refl
  where
    at_test : (v : Bool) → is_bit_text printed ≡ v → v ≡ true
    at_test true g = refl
    at_test false g = let none : bit_count printed ≡ 0 = none_digits printed g in let some : 1 ≤ bit_count text = some_digits text h in absurd (omega (arith, none, some, same))
