-- Numbers of options: one to nine digits in base ten.
use Rattle.std.specs.Prelude.{ℕ, ◌+◌, ◌-◌, ◌*◌, nat_le, nat_lt, ◌&&◌, Bool, if◌then◌else◌, List, [], ◌∷◌, length, Option, Some, None}

abbrev pub is_digit : ℕ → Bool
is_digit byte = nat_le 48 byte && nat_le byte 57

-- the number that digits write behind those that write n; none where one is no digit
abbrev pub digits_from : ℕ → List ℕ → Option ℕ
digits_from n [] = Some n
digits_from n (byte ∷ rest) = if is_digit byte then digits_from (n * 10 + (byte - 48)) rest else None

abbrev pub up_to : ℕ → Option ℕ → Option ℕ
up_to most None = None
up_to most (Some n) = if nat_le 1 n && nat_le n most then Some n else None

-- the number from 1 to `most` that a text of one to nine digits writes
abbrev pub number_of : ℕ → List ℕ → Option ℕ
number_of most text = if nat_le 1 (length text) && nat_le (length text) 9 then up_to most (digits_from 0 text) else None
