-- A Bell pair by the definitions, by computation alone: h on qubit 0, then cx on qubits 0 and 1.
use Rattle.std.specs.Prelude.{◌≡◌, refl, [], ◌∷◌, ℤ, pos, negsuc}
use Rattle.qt_ring.specs.declared.omega.Omega.{Omega}
use Rattle.qt_ring.specs.Ring.{nil, one, the_omega, imaginary, plus, times, minus}
use Rattle.qt_ring.specs.State.{State, zero_state, applied, total_a, total_b}
use Rattle.qt_ring.specs.Gates.{h_gate, cx_gate}

-- √2, which is ω − ω³
abbrev root_two : ℤ → ℤ → Omega
root_two a b = record { c0 = pos 0; c1 = a; c2 = pos 0; c3 = b }

-- 2√2 on 00 and on 11, to be halved twice
abbrev pub bell : State
bell = record { qubits = 2; entries = root_two (pos 2) (negsuc 1) ∷ nil ∷ nil ∷ root_two (pos 2) (negsuc 1) ∷ []; halvings = 2 }

pub bell_pair : applied cx_gate (0 ∷ 1 ∷ []) (applied h_gate (0 ∷ []) (zero_state 2)) ≡ bell
unfolding applied zero_state plus times minus nil one imaginary the_omega
bell_pair = refl

-- the weights sum to 16, so to 1 after the halvings
pub bell_totals : (total_a bell.entries ≡ pos 16) × (total_b bell.entries ≡ pos 0)
unfolding nil
bell_totals = (refl, refl)
