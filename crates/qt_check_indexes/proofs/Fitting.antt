-- The places of a range lie below the number of places that its end lies below.
use Rattle.std.proofs.Common.{◌≡◌, ℕ, ◌+◌, ◌-◌, ◌*◌, ◌/◌, ◌<◌, ◌≤◌, ap, arith}
use Rattle.std.proofs.Math.Nat.{div-le_self, div-mul-le_self}
use Rattle.qt_check_indexes.specs.Slices.{IsWithin}

last_fits : (start step end places turns : ℕ) → turns * step ≤ end - start → start ≤ end → end < places
    → start + (turns + 1 - 1) * step < places
last_fits start step end places turns h ordered below =
    let e : (turns + 1 - 1) * step ≡ turns * step = ap (λ n. n * step) (omega arith) in
    omega (arith, e)

pub fits_between : (places start step end : ℕ) → 0 < step → start ≤ end → end < places
    → IsWithin places (record { start = start; step = step; count = (end - start) / step + 1 })
fits_between places start step end moves ordered below = record {
  moves = moves;
  least = omega arith;
  first = omega arith;
  last = last_fits start step end places ((end - start) / step) (div-mul-le_self (end - start) step) ordered below;
  most = omega (arith, div-le_self (end - start) step);
}

pub ruleset dividing = (div-le_self, fits_between)
