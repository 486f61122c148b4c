-- One bit of a number, set or cleared.
use Rattle.std.proofs.Common.{◌≡◌, ℕ, ◌-◌, ◌*◌, ◌%◌, ◌^◌, ◌<◌, true, false, ap, ◌∙◌, arith}
use Rattle.std.specs.Prelude.{bit_and, bit_or}
use Rattle.std.specs.Int.Bits.{or_add_and}
use Rattle.std.proofs.lemmas.Nat.{and_le_l, and-not, and_comm, one_shl, pow_below}
use Rattle.std.proofs.lemmas.Nat.Bits.{and_pow}
use Rattle.qt_run.specs.Tree.{with_bit}

pub or_with_bit : (value place : ℕ) → place < 64 → bit_or value (1 * 2 ^ place % 2 ^ 64) ≡ with_bit place true value
or_with_bit value place h =
    let m = one_shl place 64 h in
    let a = or_add_and value (2 ^ place) in
    let p = and_pow value place in
    let l = and_le_l value (2 ^ place) in
    ap (bit_or value) m ∙ omega arith

pub and_with_bit : (value place : ℕ) → value < 2 ^ 64 → place < 64 → bit_and value (2 ^ 64 - 1 - (1 * 2 ^ place % 2 ^ 64)) ≡ with_bit place false value
and_with_bit value place v h =
    let m = one_shl place 64 h in
    let b : 2 ^ place < 2 ^ 64 = pow_below place 64 h in
    let a = and-not 64 (2 ^ place) value b v in
    let c = and_comm (2 ^ place) value in
    let d = and_comm (2 ^ 64 - 1 - 2 ^ place) value in
    let p = and_pow value place in
    ap (λ k. bit_and value (2 ^ 64 - 1 - k)) m ∙ omega arith
