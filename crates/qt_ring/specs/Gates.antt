-- The four gates h, x, t and cx as bodies over U and gphase, with their global phases: the entries are those of the gates of
-- the standard library of OpenQASM 3.0 (live specification, "Standard library"; Cross et al. 2022), each to be
-- halved `halvings` times.
use Rattle.std.specs.Prelude.{[], ◌∷◌}
use Rattle.qt_ring.specs.Matrix.{Operator, u_gate, phase_gate, controlled, body}

-- U(π/2, 0, π) and a phase of −π/4
abbrev pub h_gate : Operator
h_gate = body 1 ((u_gate 2 0 4, 0 ∷ []) ∷ (phase_gate 7, []) ∷ [])

-- U(π, 0, π) and a phase of −π/2
abbrev pub x_gate : Operator
x_gate = body 1 ((u_gate 4 0 4, 0 ∷ []) ∷ (phase_gate 6, []) ∷ [])

-- a phase of π/4 under control
abbrev pub t_gate : Operator
t_gate = controlled (phase_gate 1)

-- x under control
abbrev pub cx_gate : Operator
cx_gate = controlled x_gate
