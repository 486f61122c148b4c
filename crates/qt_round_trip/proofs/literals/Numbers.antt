-- The decimal digits of a whole number are spelled as that number.
use Rattle.std.proofs.Common.{◌≡◌, ℕ, suc, ◌+◌, ◌-◌, ◌*◌, ◌/◌, ◌%◌, ◌^◌, ◌≤◌, ◌<◌, inl, inr, true, eqb, cond, List, [], ◌∷◌, ◌++◌, length, refl, sym, ◌∙◌, ap, subst, arith, decimal}
use Rattle.std.specs.List.{slice_range}
use Rattle.std.proofs.lemmas.Fmt.{decimal_by_steps, length-decimal-le}
use Rattle.std.proofs.lemmas.List.{get_or_append_left, take_all, length-append}
use Rattle.std.proofs.Math.Seq.{get_or-append_seam}
use Rattle.qt_lex.specs.declared.number.Radix.TheVariants as radix
use Rattle.qt_lex.specs.declared.tokens.Kind.TheVariants.{Integer}
use Rattle.qt_lex.specs.Bytes.{byte, is_digit, EachFrom}
use Rattle.qt_lex.specs.Numbers.{digit_value, number_of, IsWhole}
use Rattle.qt_lex.specs.Tokens.{IsToken}
use Rattle.qt_lex.proofs.Tables.{or_left, compare2}
use Rattle.qt_terminals.specs.Literals.{integer_of}
use Rattle.qt_terminals.proofs.Integers.{integer_slice}
use Rattle.qt_round_trip.proofs.literals.Kept.{AreNumbersAgain}
use Rattle.qt_round_trip.proofs.literals.Shifts.{number_same}

-- these bytes are decimal digits, and they name this number
record Denotes (n : ℕ) (digits : List ℕ) : Type 0 where
  some : 0 < length digits
  each : EachFrom (byte digits) is_digit 0 (length digits)
  value : number_of (byte digits) 10 0 (length digits) ≡ n

glyph_digit : (n : ℕ) → n < 10 → is_digit (48 + n) ≡ true
glyph_digit n lt = grind arith

glyph_value : (n before : ℕ) → n < 10 → cond (eqb (48 + n) 95) before (before * 10 + digit_value (48 + n)) ≡ before * 10 + n
glyph_value n before lt = grind arith

one_digit : (n : ℕ) → n < 10 → Denotes n ((48 + n) ∷ [])
one_digit n lt = record {
  some = omega arith;
  each = λ k from below. let e : 0 ≡ k = omega (arith, below) in subst (λ t. is_digit (byte ((48 + n) ∷ []) t) ≡ true) e (glyph_digit n lt);
  value = let e : number_of (byte ((48 + n) ∷ [])) 10 0 1 ≡ 0 * 10 + n = glyph_value n 0 lt in omega (arith, e);
}

one_more : (n : ℕ) (ds : List ℕ) → 10 ≤ n → Denotes (n / 10) ds → Denotes n (ds ++ (48 + n % 10) ∷ [])
one_more n ds le h =
    let d = 48 + n % 10 in
    let longer = ds ++ d ∷ [] in
    let before : (k : ℕ) → k < length ds → byte longer k ≡ byte ds k = λ k lt. get_or_append_left ds (d ∷ []) 0 k lt in
    let last : byte longer (length ds) ≡ d = get_or-append_seam ds d [] 0 in
    let here : byte longer (0 + length ds) ≡ d = ap (byte longer) (omega arith) ∙ last in
    let small : n % 10 < 10 = omega arith in
    let so_far : number_of (byte longer) 10 0 (length ds) ≡ n / 10 =
    number_same (byte ds) (byte longer) 0 0 (length ds) (λ k lt. ap (byte longer) (omega arith) ∙ before k lt ∙ ap (byte ds) (omega arith)) 10 (length ds) (omega arith) ∙ h.value in
    let all : number_of (byte longer) 10 0 (suc (length ds)) ≡ n / 10 * 10 + n % 10 =
    ap (λ t. cond (eqb t 95) (number_of (byte longer) 10 0 (length ds)) (number_of (byte longer) 10 0 (length ds) * 10 + digit_value t)) here
    ∙ glyph_value (n % 10) (number_of (byte longer) 10 0 (length ds)) small ∙ ap (λ t. t * 10 + n % 10) so_far in
    let size : length longer ≡ suc (length ds) = omega (arith, length-append ds (d ∷ [])) in
    record {
      some = omega (arith, size);
      each = λ k from below. elim (compare2 (length ds) k) [
        | inl ge ↦ (let e : length ds ≡ k = omega (arith, size) in subst (λ t. is_digit (byte longer t) ≡ true) e (ap is_digit last ∙ glyph_digit (n % 10) small))
        | inr lt ↦ ap is_digit (before k lt) ∙ h.each k from lt
      ];
      value = ap (number_of (byte longer) 10 0) size ∙ all ∙ omega arith;
    }

denotes : (n : ℕ) → n < 2 ^ 64 → Denotes n (decimal n)
denotes n h = decimal_by_steps Denotes one_digit one_more n h

whole_text : (xs : List ℕ) → slice_range xs 0 (length xs) ≡ xs
whole_text xs = take_all (length xs - 0) xs (omega arith)

whole : (n : ℕ) (ds : List ℕ) → Denotes n ds → IsWhole (byte ds) radix.Decimal 0 0 (length ds)
whole n ds h = record {
  prefix = inl (refl, refl);
  digits = record {
    some = h.some;
    first = h.each 0 (omega arith) h.some;
    each = λ k from below. or_left (is_digit (byte ds k)) _ (h.each k from below);
    last = h.each (length ds - 1) (omega arith) (omega (arith, h.some));
  };
}

spelled : (n : ℕ) (ds : List ℕ) → n < 2 ^ 64 → Denotes n ds → IsToken (byte ds) Integer 0 (length ds)
spelled n ds lt h = (radix.Decimal, 0, whole n ds h, subst (λ t. t < 2 ^ 64) (sym (ap (number_of (byte ds) 10 0) (omega arith) ∙ h.value)) lt)

value : (n : ℕ) (ds : List ℕ) → Denotes n ds → integer_of ds ≡ n
value n ds h =
    ap integer_of (sym (whole_text ds)) ∙ integer_slice ds 0 (length ds) (omega arith) (omega arith) radix.Decimal 0 (whole n ds h)
    ∙ ap (number_of (byte ds) 10 0) (omega arith) ∙ h.value

pub numbers_again : AreNumbersAgain
numbers_again n h = record {
  spelled = spelled n (decimal n) h (denotes n h);
  value = value n (decimal n) (denotes n h);
  short = length-decimal-le 20 n (omega arith) (omega arith) h;
}
