-- Printed matrices at given angles, by computing: both sides are lists of numbers.
use Rattle.std.proofs.Common.{◌*◌, [], ◌∷◌, refl}
use Rattle.std.specs.Prelude.{codes}
use denote.Hole.Carrier.{hidden}
use Rattle.qt_ring.specs.Ring.{plus, times, minus, conj, nil, one, imaginary, the_omega}
use Rattle.qt_gate_calls.specs.Standard.{standard_gates}
use Rattle.qt_gate_calls.specs.declared.angle.Angle.TheBlock.{hidden-the_row-Angle-0}
use Rattle.qt_gates.specs.Printed.{alone, under_control, rz_square}
use Rattle.qt_gates.specs.Laws.{eighths, EachEighth, Prints, FixedGatesArePrinted, ControlledGatesArePrinted, PermutationsArePrinted, RotationsArePrinted}
use Rattle.qt_gates.proofs.Rotations.{rx_rotations, ry_rotations, crx_rotations, cry_rotations}

pub fixed_gates : FixedGatesArePrinted
unfolding standard_gates plus times minus conj nil one imaginary the_omega hidden hidden-the_row-Angle-0
fixed_gates = (refl, refl, refl, refl, refl, refl, refl, refl, refl, refl)

pub controlled_gates : ControlledGatesArePrinted
unfolding standard_gates plus times minus conj nil one imaginary the_omega hidden hidden-the_row-Angle-0
controlled_gates = (refl, refl, refl, refl, refl)

pub permutations : PermutationsArePrinted
unfolding standard_gates plus times minus conj nil one imaginary the_omega hidden hidden-the_row-Angle-0
permutations = (refl, refl, refl)

rz_printed : EachEighth (λ k. Prints (codes "rz") (eighths (2 * k) ∷ []) (alone (rz_square k)))
unfolding standard_gates plus times minus conj nil one imaginary the_omega hidden hidden-the_row-Angle-0
rz_printed = (refl, refl, refl, refl, refl, refl, refl, refl)

crz_printed : EachEighth (λ k. Prints (codes "crz") (eighths (2 * k) ∷ []) (under_control (rz_square k)))
unfolding standard_gates plus times minus conj nil one imaginary the_omega hidden hidden-the_row-Angle-0
crz_printed = (refl, refl, refl, refl, refl, refl, refl, refl)

pub rotations : RotationsArePrinted
rotations = (rx_rotations, ry_rotations, crx_rotations, cry_rotations, rz_printed, crz_printed)
