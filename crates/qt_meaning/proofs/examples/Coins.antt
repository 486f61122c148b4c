-- A coin, and a coin that was turned.
use Rattle.std.proofs.Common.{◌≡◌, refl, [], ◌∷◌, pos, negsuc, Some}
use Rattle.qt_ring.specs.Ring.{plus, times, minus, nil, one, imaginary, the_omega}
use Rattle.qt_ring.specs.State.{zero_state, applied, project, vanishes}
use Rattle.qt_root2.specs.Real.{Real, plus_real}
use Rattle.qt_mass.specs.Mass.{mass}
use Rattle.qt_value.specs.declared.types.ValueType.TheVariants as kind
use Rattle.qt_gate_calls.specs.Standard.{standard_gates}
use Rattle.qt_typed.specs.declared.program.Typed.{Typed}
use Rattle.qt_meaning.specs.Values.{with_bit}
use Rattle.qt_meaning.specs.Distribution.{probability}
use Rattle.qt_meaning.proofs.examples.Words.{at_line, h, t, measure, output, program, real}

-- qubit q; bit c; h q; c = measure q;
abbrev coin : Typed
coin = program 1 1 (output (kind.Bit 1) 0 ∷ []) (at_line 3 (h 0) ∷ at_line 4 (measure 0 0) ∷ [])

heads : probability coin 10 (0 ∷ []) ≡ real (pos 1) (pos 0) 1
unfolding zero_state applied project vanishes mass plus_real standard_gates with_bit plus times minus nil one imaginary the_omega
heads = refl

tails : probability coin 10 (1 ∷ []) ≡ real (pos 1) (pos 0) 1
unfolding zero_state applied project vanishes mass plus_real standard_gates with_bit plus times minus nil one imaginary the_omega
tails = refl

-- qubit q; bit c; h q; t q; h q; c = measure q;
abbrev turned : Typed
turned = program 1 1 (output (kind.Bit 1) 0 ∷ []) (at_line 3 (h 0) ∷ at_line 4 (t 0) ∷ at_line 5 (h 0) ∷ at_line 6 (measure 0 0) ∷ [])

turned_heads : probability turned 10 (0 ∷ []) ≡ real (pos 2) (pos 1) 2
unfolding zero_state applied project vanishes mass plus_real standard_gates with_bit plus times minus nil one imaginary the_omega
turned_heads = refl

turned_tails : probability turned 10 (1 ∷ []) ≡ real (pos 2) (negsuc 0) 2
unfolding zero_state applied project vanishes mass plus_real standard_gates with_bit plus times minus nil one imaginary the_omega
turned_tails = refl
