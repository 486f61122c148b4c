use Rattle.std.proofs.Common.{◌≡◌, ◌≢◌, ◌/◌, ◌^◌, ◌<◌, ℕ, Option, Some, None, arith, bit_and}
use Rattle.std.specs.Int.{bit_at}
use Rattle.std.specs.Option.{SomeIff, unwrap_or}
use Rattle.std.proofs.lemmas.Nat.Bits.{shr_and_one, bit_at-lt, bit_at_above}
use Rattle.qt_lexemes.proofs.literal.binary_digit.Goals as goal

-- a bit that isn't 1 is 0, also past the highest place, where the shift answers None
zero_bit : (value place : ℕ) (shifted : Option ℕ) → value < 2 ^ 64 → SomeIff shifted (place < 64) (value / 2 ^ place) → bit_and (unwrap_or shifted 0) 1 ≢ 1 → bit_at value place ≡ 0
zero_bit value place None small past not_one = bit_at_above value 64 place small (omega (arith, past))
zero_bit value place (Some shifted) small within not_one =
    let lowest : bit_and shifted 1 ≡ bit_at value place = rw within.1 (shr_and_one value place) in
    omega (arith, lowest, not_one, bit_at-lt value place)

pub returns-else-unwrap_or-eq1 : goal.returns-else-unwrap_or-eq1
returns-else-unwrap_or-eq1 c =
    let not_one : bit_and (unwrap_or c.checked_shr.result 0) 1 ≢ 1 = rw c.unwrap_or.ensures at c.if-unwrap_or-eq1.false in
    omega (arith, zero_bit c.args.value c.args.place c.checked_shr.result c.ranges.value.fits c.checked_shr.ensures not_one)
