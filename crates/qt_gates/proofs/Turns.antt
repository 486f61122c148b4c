-- Phases and turns at every angle, by the laws of the ring.
use Rattle.std.proofs.Common.{◌≡◌, [], ◌∷◌, ap, ◌∙◌}
use denote.Hole.Carrier.{hidden}
use Rattle.qt_ring.specs.declared.omega.Omega.{Omega}
use Rattle.qt_ring.specs.Ring.{times}
use Rattle.qt_ring.specs.Matrix.{Operator, twice_u, controlled}
use Rattle.qt_ring.proofs.RingLaws.{times_comm, plus-nil, nil-plus, times-nil, nil-times, times-one, one-times}
use Rattle.qt_gate_calls.specs.Units.{circle}
use Rattle.qt_gate_calls.specs.Matrices.{nothing_on, after, on}
use Rattle.qt_gate_calls.specs.Standard.{standard_gates}
use Rattle.qt_gate_calls.specs.declared.angle.Angle.TheBlock.{hidden-the_row-Angle-0}
use Rattle.qt_gates.specs.Printed.{Square, square, alone, under_control, p_square, u_square, scaled}
use Rattle.qt_gates.specs.Laws.{IsPrinted, doubled, eighths, half_back, sum, less_half, quarter_back, PhasesArePrinted, TurnsArePrinted, ControlledTurnsArePrinted}

-- ---- the operators by their numbers

abbrev pub phase : Omega → Operator
phase e = record { size = 0; halvings = 0; entries = λ x y. e }

abbrev pub turn : Omega → Omega → Omega → Operator
turn a b c = record { size = 1; halvings = 1; entries = twice_u a b c }

abbrev p_operator : Omega → Operator
p_operator e = after 1 (nothing_on 1) (on 1 (0 ∷ []) (controlled (phase e)))

-- a gate on one qubit under control
abbrev pub below : Operator → Operator
below g = after 2 (nothing_on 2) (on 2 (0 ∷ 1 ∷ []) (controlled g))

-- a phase and then U, and the other way round
abbrev phase_and_turn : Omega → Omega → Omega → Omega → Operator
phase_and_turn g a b c = after 1 (after 1 (nothing_on 1) (on 1 (0 ∷ []) (turn a b c))) (on 1 [] (phase g))

abbrev pub turn_and_phase : Omega → Omega → Omega → Omega → Operator
turn_and_phase g a b c = after 1 (after 1 (nothing_on 1) (on 1 [] (phase g))) (on 1 (0 ∷ []) (turn a b c))

abbrev cu_operator : Omega → Omega → Omega → Omega → Operator
cu_operator g a b c = after 2 (after 2 (nothing_on 2) (on 2 (0 ∷ 1 ∷ []) (controlled (turn a b c)))) (on 2 (0 ∷ []) (p_operator g))

-- ---- each is what is printed

p_printed : (e : Omega) → IsPrinted (p_operator e) (alone (p_square e))
p_printed e = simp (one-times, nil-times, plus-nil, nil-plus)

cp_printed : (e : Omega) → IsPrinted (below (p_operator e)) (under_control (p_square e))
cp_printed e = simp (one-times, nil-times, plus-nil, nil-plus)

u3_printed : (g a b c : Omega) → IsPrinted (phase_and_turn g a b c) (alone (scaled g (u_square a b c)))
u3_printed g a b c = simp (one-times, nil-times, times-nil, plus-nil, nil-plus)

cu_printed : (g a b c : Omega) → IsPrinted (cu_operator g a b c) (under_control (scaled g (u_square a b c)))
cu_printed g a b c = simp (one-times, times-one, nil-times, times-nil, plus-nil, nil-plus)

-- the number in front
abbrev scaled_in_front : Omega → Square → Square
scaled_in_front g m = square m.halvings (times g m.a) (times g m.b) (times g m.c) (times g m.d)

in_front : (g : Omega) (m : Square) → scaled_in_front g m ≡ scaled g m
in_front g m =
    let h = m.halvings in
    ap (λ t. square h t (times g m.b) (times g m.c) (times g m.d)) (times_comm g m.a)
    ∙ ap (λ t. square h (times m.a g) t (times g m.c) (times g m.d)) (times_comm g m.b)
    ∙ ap (λ t. square h (times m.a g) (times m.b g) t (times g m.d)) (times_comm g m.c)
    ∙ ap (λ t. square h (times m.a g) (times m.b g) (times m.c g) t) (times_comm g m.d)

rx_in_front : (g a b c : Omega) → IsPrinted (turn_and_phase g a b c) (alone (scaled_in_front g (u_square a b c)))
rx_in_front g a b c = simp (one-times, nil-times, plus-nil, nil-plus)

pub rx_printed : (g a b c : Omega) → IsPrinted (turn_and_phase g a b c) (alone (scaled g (u_square a b c)))
rx_printed g a b c = rx_in_front g a b c ∙ ap (λ (m : Square). doubled 1 (alone m).rows) (in_front g (u_square a b c))

crx_in_front : (g a b c : Omega) → IsPrinted (below (turn_and_phase g a b c)) (under_control (scaled_in_front g (u_square a b c)))
crx_in_front g a b c = simp (one-times, nil-times, times-nil, plus-nil, nil-plus)

pub crx_printed : (g a b c : Omega) → IsPrinted (below (turn_and_phase g a b c)) (under_control (scaled g (u_square a b c)))
crx_printed g a b c = crx_in_front g a b c ∙ ap (λ (m : Square). doubled 1 (under_control m).rows) (in_front g (u_square a b c))

-- ---- the rows of the table

pub phases : PhasesArePrinted
unfolding standard_gates hidden hidden-the_row-Angle-0
phases lambda =
    let e = circle lambda in
    (p_printed e, p_printed e, p_printed e, cp_printed e, cp_printed e)

pub turns : TurnsArePrinted
unfolding standard_gates hidden hidden-the_row-Angle-0
turns theta phi lambda = (
  rx_printed (circle (half_back theta)) (circle theta) (circle quarter_back) (circle (eighths 2)),
  rx_printed (circle (half_back theta)) (circle theta) (circle (eighths 0)) (circle (eighths 0)),
  u3_printed (circle (half_back (sum (sum phi lambda) (eighths 2)))) (circle (eighths 2)) (circle phi) (circle lambda),
  u3_printed (circle (half_back (sum (sum theta phi) lambda))) (circle theta) (circle phi) (circle lambda),
)

pub controlled_turns : ControlledTurnsArePrinted
unfolding standard_gates hidden hidden-the_row-Angle-0
controlled_turns theta phi lambda gamma = (
  crx_printed (circle (half_back theta)) (circle theta) (circle quarter_back) (circle (eighths 2)),
  crx_printed (circle (half_back theta)) (circle theta) (circle (eighths 0)) (circle (eighths 0)),
  cu_printed (circle (less_half gamma theta)) (circle theta) (circle phi) (circle lambda),
)
