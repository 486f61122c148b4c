-- The printed report, byte by byte: a line `name=digits (a+br)/2^k` for each output value, and the line of the total.
-- `r` stands for √2. The highest place of a bit register is on the left (OpenQASM 3.0 live specification, "Classical types":
-- bit strings are written with the highest index first).
use Rattle.std.specs.Prelude.{ℕ, zero, suc, ◌+◌, List, [], ◌∷◌, ◌++◌, codes, ℤ, pos, negsuc}
use Rattle.std.specs.Int.{bit_at}
use Rattle.std.specs.Fmt.{decimal, signed_decimal}
use Rattle.std.specs.List.{flat_map, join_with_byte}
use Rattle.std.specs.Int.RustNames.{unsigned_abs}
use Rattle.qt_root2.specs.Real.{Real, zero_real, plus_real}
use Rattle.qt_root2.specs.Masses.{real_of_reduced}
use Rattle.qt_report.specs.declared.distribution.Chance.{Chance}
use Rattle.qt_report.specs.Outcomes.{BitRegister, Outcomes}

-- `+` also for 0
abbrev pub sign : ℤ → List ℕ
sign (pos n) = codes "+"
sign (negsuc n) = codes "-"

-- a, the sign of b, the size of b, and the exponent
abbrev pub fraction : Real → List ℕ
fraction x = codes "(" ++ signed_decimal x.a ++ sign x.b ++ decimal (unsigned_abs x.b) ++ codes "r)/2^" ++ decimal x.k

-- the lowest places of a number as binary digits, the highest of them on the left
abbrev pub binary_digits : ℕ → ℕ → List ℕ
binary_digits zero value = []
binary_digits (suc width) value = (48 + bit_at value width) ∷ binary_digits width value

-- `name=digits`
abbrev pub register_text : BitRegister → ℕ → List ℕ
register_text register value = register.name ++ codes "=" ++ binary_digits register.width value

-- each register with its value, as far as both lists go
abbrev pub values_texts : List BitRegister → List ℕ → List (List ℕ)
values_texts (r ∷ rs) (v ∷ vs) = register_text r v ∷ values_texts rs vs
values_texts _ _ = []

-- the values with one space between, or `-` where there is no output variable
abbrev pub output_text : List BitRegister → List ℕ → List ℕ
output_text [] values = codes "-"
output_text (r ∷ rs) values = join_with_byte 32 (values_texts (r ∷ rs) values)

-- the line of an output value, with its line feed
abbrev pub chance_line : List BitRegister → Chance → List ℕ
chance_line layout chance = output_text layout chance.output ++ codes " " ++ fraction (real_of_reduced chance.of) ++ 10 ∷ []

-- the sum of all probabilities
abbrev pub total_of : List Chance → Real
total_of [] = zero_real
total_of (c ∷ cs) = plus_real (real_of_reduced c.of) (total_of cs)

abbrev pub total_line : List Chance → List ℕ
total_line chances = codes "total " ++ fraction (total_of chances) ++ 10 ∷ []

-- the lines of the output values in their order, and the line of the total
abbrev pub report_text : Outcomes → List ℕ
report_text d = flat_map (chance_line d.layout) d.chances ++ total_line d.chances
