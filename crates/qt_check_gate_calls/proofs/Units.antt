-- An angle has few units: less than a whole turn, which is 2^33.
use Rattle.std.proofs.Common.{◌≡◌, ℕ, ◌+◌, ◌-◌, ◌*◌, ◌%◌, ◌^◌, ◌<◌, ◌≤◌, arith, ap}
use Rattle.std.proofs.lemmas.Nat.{shl_below, shl_whole}

pub few_units : (width bits : ℕ) → width ≤ 32 → bits < 2 ^ width → bits * 2 ^ (33 - width) < 2 ^ 33
few_units width bits h few =
    let below : bits * 2 ^ (33 - width) < 2 ^ (width + (33 - width)) = shl_below bits width (33 - width) few in
    let turn : width + (33 - width) ≡ 33 = omega arith in
    let whole : 2 ^ (width + (33 - width)) ≡ 2 ^ 33 = ap (λ n. 2 ^ n) turn in
    omega arith

-- no bit is lost where the number is shifted
pub whole_units : (width bits : ℕ) → width ≤ 32 → bits < 2 ^ width → bits * 2 ^ (33 - width) % 2 ^ 64 ≡ bits * 2 ^ (33 - width)
whole_units width bits h few = shl_whole bits width (33 - width) 64 few (omega arith)

pub shifted_few : (width bits : ℕ) → width ≤ 32 → bits < 2 ^ width → bits * 2 ^ (33 - width) % 2 ^ 64 < 2 ^ 33
shifted_few width bits h few = rw (whole_units width bits h few) (few_units width bits h few)
