-- The definitions at small programs: what they give is computed.
use Rattle.std.proofs.Common.{◌≡◌, ℕ, List, [], ◌∷◌, refl, pos, negsuc}
use Rattle.qt_ring.specs.Ring.{nil, one, the_omega, imaginary, plus, minus, times}
use Rattle.qt_ring.specs.State.{zero_state, applied, project, vanishes}
use Rattle.qt_root2.specs.Real.{Real, zero_real, plus_real}
use Rattle.qt_mass.specs.Mass.{mass}
use Rattle.qt_first.specs.declared.program.Statement.{Statement}
use Rattle.qt_first.specs.declared.program.Statement.TheVariants.{Hadamard, T, X, ControlledX, Measure}
use Rattle.qt_run.specs.Tree.{leaves_of}
use Rattle.qt_run.specs.Distribution.{share}

-- what an output value has in a program on so many qubits and bits
abbrev share_in : ℕ → List Statement → List ℕ → Real
share_in n statements output = share (leaves_of (record { qubits = n; bits = n; statements = statements })) output

coin-zero : share_in 1 (Hadamard 0 ∷ Measure 0 0 ∷ []) (0 ∷ []) ≡ record { a = pos 1; b = pos 0; k = 1 }
unfolding nil one the_omega imaginary plus minus times zero_state applied project vanishes plus_real mass
coin-zero = refl

-- h, t, h
turned-zero : share_in 1 (Hadamard 0 ∷ T 0 ∷ Hadamard 0 ∷ Measure 0 0 ∷ []) (0 ∷ []) ≡ record { a = pos 2; b = pos 1; k = 2 }
unfolding nil one the_omega imaginary plus minus times zero_state applied project vanishes plus_real mass
turned-zero = refl

turned-one : share_in 1 (Hadamard 0 ∷ T 0 ∷ Hadamard 0 ∷ Measure 0 0 ∷ []) (1 ∷ []) ≡ record { a = pos 2; b = negsuc 0; k = 2 }
unfolding nil one the_omega imaginary plus minus times zero_state applied project vanishes plus_real mass
turned-one = refl

no_statements : share_in 2 [] (0 ∷ []) ≡ record { a = pos 1; b = pos 0; k = 0 }
unfolding nil one the_omega imaginary plus minus times zero_state applied project vanishes plus_real mass
no_statements = refl

-- the control is qubit 0, and each bit stands at its place
carried : share_in 2 (X 0 ∷ ControlledX 0 1 ∷ Measure 1 1 ∷ []) (2 ∷ []) ≡ record { a = pos 1; b = pos 0; k = 0 }
unfolding nil one the_omega imaginary plus minus times zero_state applied project vanishes plus_real mass
carried = refl

bell-three : share_in 2 (Hadamard 0 ∷ ControlledX 0 1 ∷ Measure 0 0 ∷ Measure 1 1 ∷ []) (3 ∷ []) ≡ record { a = pos 1; b = pos 0; k = 1 }
unfolding nil one the_omega imaginary plus minus times zero_state applied project vanishes plus_real mass
bell-three = refl

bell-one : share_in 2 (Hadamard 0 ∷ ControlledX 0 1 ∷ Measure 0 0 ∷ Measure 1 1 ∷ []) (1 ∷ []) ≡ zero_real
unfolding nil one the_omega imaginary plus minus times zero_state applied project vanishes plus_real mass
bell-one = refl
