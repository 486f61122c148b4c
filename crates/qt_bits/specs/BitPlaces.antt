-- The bits of a number by their places, place 0 the lowest (OpenQASM 3.0 live specification, "Types and Casting"; Cross et al. 2022,
-- "Real-time classical computing").
-- An operator on places says for each place of its result which bit stands there.
use Rattle.std.specs.Prelude.{ℕ, zero, suc, ◌+◌, ◌-◌, ◌*◌, ◌%◌, ◌^◌}
use Rattle.std.specs.Int.{bit_at}

-- f 0 + f 1 + .. of the places below n
unfoldable pub sum_below : ℕ → (ℕ → ℕ) → ℕ
sum_below zero f = 0
sum_below (suc n) f = sum_below n f + f n

-- the number whose bit at place i is `bit i`, of n places
abbrev pub from_places : ℕ → (ℕ → ℕ) → ℕ
from_places n bit = sum_below n (λ i. bit i * 2 ^ i)

-- each of n bits turned
abbrev pub turned : ℕ → ℕ → ℕ
turned n x = from_places n (λ i. 1 - bit_at x i)

-- n bits, of which place i is place i + k of x, round the register
abbrev pub moved_down : ℕ → ℕ → ℕ → ℕ
moved_down n k x = from_places n (λ i. bit_at x ((i + k) % n))

-- how many of n bits are 1
abbrev pub ones_below : ℕ → ℕ → ℕ
ones_below n x = sum_below n (λ i. bit_at x i)
