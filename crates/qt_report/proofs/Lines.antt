-- A report is its lines in a row, and no byte of a line but its last is a line feed.
use Rattle.std.proofs.Common.{◌≡◌, ◌≢◌, ℕ, zero, suc, ◌+◌, ◌/◌, ◌%◌, ◌==◌, List, [], ◌∷◌, ◌++◌, Bool, true, false, if◌then◌else◌, nat_lt, map, All, codes, ℤ, pos, negsuc, refl, ap, sym, ◌∙◌, arith, rules, append_assoc, append-nil}
use Rattle.std.specs.Fmt.{digits, digits_onto, decimal, signed_decimal}
use Rattle.std.specs.Int.RustNames.{unsigned_abs}
use Rattle.std.specs.List.{concat, flat_map, join_with_byte}
use Rattle.std.proofs.lemmas.List.Elements.{All-nil, All-cons, All-head, All-tail}
use Rattle.qt_root2.specs.Masses.{real_of_reduced}
use Rattle.qt_root2.specs.Real.{Real}
use Rattle.qt_report.specs.declared.distribution.Chance.{Chance}
use Rattle.qt_report.specs.Outcomes.{BitRegister, Outcomes}
use Rattle.qt_report.specs.Report.{sign, fraction, binary_digits, register_text, values_texts, output_text, chance_line, total_of, total_line, report_text}
use Rattle.qt_report.specs.Lines.{IsUnbroken, IsLine, report_lines}

-- no byte is a line feed, byte by byte
data Unbroken : List ℕ → Type 0 where
  none : Unbroken []
  next : {byte : ℕ} {text : List ℕ} → byte ≢ 10 → Unbroken text → Unbroken (byte ∷ text)

from_all : (text : List ℕ) → IsUnbroken text → Unbroken text
from_all [] all = none
from_all (byte ∷ text) all = next (All-head (λ b. b ≢ 10) byte text all) (from_all text (All-tail (λ b. b ≢ 10) byte text all))

to_all : {text : List ℕ} → Unbroken text → IsUnbroken text
to_all none = All-nil (λ b. b ≢ 10)
to_all {text = byte ∷ text} (next this rest) = All-cons (λ b. b ≢ 10) byte text this (to_all rest)

joined : {xs ys : List ℕ} → Unbroken xs → Unbroken ys → Unbroken (xs ++ ys)
joined none back = back
joined (next this rest) back = next this (joined rest back)

either : (b : Bool) {xs ys : List ℕ} → Unbroken xs → Unbroken ys → Unbroken (if b then xs else ys)
either true front back = front
either false front back = back

glyph : (b : Bool) (d : ℕ) → (if b then 48 + d else 87 + d) ≢ 10
glyph true d e = omega (arith, e)
glyph false d e = omega (arith, e)

digits_onto-unbroken : (k n : ℕ) {text : List ℕ} → Unbroken text → Unbroken (digits_onto k 10 false n text)
digits_onto-unbroken zero n rest = rest
digits_onto-unbroken (suc k) n rest =
    let more = next (glyph (nat_lt (n % 10) 10) (n % 10)) rest in
    either (n / 10 == 0) more (digits_onto-unbroken k (n / 10) more)

decimal-unbroken : (n : ℕ) → Unbroken (decimal n)
unfolding digits
decimal-unbroken n = digits_onto-unbroken 64 n none

signed_decimal-unbroken : (z : ℤ) → Unbroken (signed_decimal z)
signed_decimal-unbroken (pos n) = decimal-unbroken n
signed_decimal-unbroken (negsuc n) = next (omega arith) (decimal-unbroken (suc n))

sign-unbroken : (z : ℤ) → Unbroken (sign z)
sign-unbroken (pos n) = next (omega arith) none
sign-unbroken (negsuc n) = next (omega arith) none

fraction-unbroken : (x : Real) → Unbroken (fraction x)
fraction-unbroken x =
    let opened : Unbroken (codes "(") = search (rules, none, next) in
    let over : Unbroken (codes "r)/2^") = search (rules, none, next) in
    let numerator = joined (joined (joined opened (signed_decimal-unbroken x.a)) (sign-unbroken x.b)) (decimal-unbroken (unsigned_abs x.b)) in
    joined (joined numerator over) (decimal-unbroken x.k)

binary_digits-unbroken : (width value : ℕ) → Unbroken (binary_digits width value)
binary_digits-unbroken zero value = none
binary_digits-unbroken (suc width) value = next (omega arith) (binary_digits-unbroken width value)

-- one more piece in front of those that are joined
join-unbroken : {piece : List ℕ} (pieces : List (List ℕ)) → Unbroken piece → Unbroken (join_with_byte 32 pieces) → Unbroken (join_with_byte 32 (piece ∷ pieces))
join-unbroken [] this rest = this
join-unbroken (following ∷ pieces) this rest = joined this (next (omega arith) rest)

register_text-unbroken : (register : BitRegister) (value : ℕ) → IsUnbroken register.name → Unbroken (register_text register value)
register_text-unbroken register value name =
    joined (joined (from_all register.name name) (next (omega arith) none)) (binary_digits-unbroken register.width value)

values-unbroken : (layout : List BitRegister) (values : List ℕ) → All (λ register. IsUnbroken register.name) layout → Unbroken (join_with_byte 32 (values_texts layout values))
values-unbroken [] values names = none
values-unbroken (register ∷ layout) [] names = none
values-unbroken (register ∷ layout) (value ∷ values) names =
    let name : IsUnbroken register.name = All-head (λ (r : BitRegister). IsUnbroken r.name) register layout names in
    join-unbroken (values_texts layout values) (register_text-unbroken register value name)
    (values-unbroken layout values (All-tail (λ (r : BitRegister). IsUnbroken r.name) register layout names))

output_text-unbroken : (layout : List BitRegister) (values : List ℕ) → All (λ register. IsUnbroken register.name) layout → Unbroken (output_text layout values)
output_text-unbroken [] values names = next (omega arith) none
output_text-unbroken (register ∷ layout) values names = values-unbroken (register ∷ layout) values names

chance_line-is_line : (layout : List BitRegister) (chance : Chance) → All (λ register. IsUnbroken register.name) layout → IsLine (chance_line layout chance)
chance_line-is_line layout chance names = (
  output_text layout chance.output ++ codes " " ++ fraction (real_of_reduced chance.of),
  refl,
  to_all (joined (joined (output_text-unbroken layout chance.output names) (next (omega arith) none)) (fraction-unbroken (real_of_reduced chance.of))),
)

total_line-is_line : (chances : List Chance) → IsLine (total_line chances)
total_line-is_line chances =
    let word : Unbroken (codes "total ") = search (rules, none, next) in
    (codes "total " ++ fraction (total_of chances), refl, to_all (joined word (fraction-unbroken (total_of chances))))

lines-are_lines : (layout : List BitRegister) (chances : List Chance) (last : List ℕ) → All (λ register. IsUnbroken register.name) layout → IsLine last
    → All IsLine (map (chance_line layout) chances ++ last ∷ [])
lines-are_lines layout [] last names end = All-cons IsLine last [] end (All-nil IsLine)
lines-are_lines layout (chance ∷ chances) last names end =
    All-cons IsLine (chance_line layout chance) _ (chance_line-is_line layout chance names) (lines-are_lines layout chances last names end)

pub report_lines-are_lines : (d : Outcomes) → All (λ register. IsUnbroken register.name) d.layout → All IsLine (report_lines d)
report_lines-are_lines d names = lines-are_lines d.layout d.chances (total_line d.chances) names (total_line-is_line d.chances)

concat-lines : (layout : List BitRegister) (chances : List Chance) (last : List ℕ) → concat (map (chance_line layout) chances ++ last ∷ []) ≡ flat_map (chance_line layout) chances ++ last
concat-lines layout [] last = append-nil last
concat-lines layout (chance ∷ chances) last =
    ap (λ rest. chance_line layout chance ++ rest) (concat-lines layout chances last)
    ∙ sym (append_assoc (chance_line layout chance) (flat_map (chance_line layout) chances) last)

pub concat-report_lines : (d : Outcomes) → concat (report_lines d) ≡ report_text d
concat-report_lines d = concat-lines d.layout d.chances (total_line d.chances)
