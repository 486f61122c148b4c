-- The matrices of the standard gates as they are printed (OpenQASM 3.0 live specification, "Standard library" and "Gates", built-in gates;
-- Cross et al. 2022): row by row, each entry to be halved so many times. Angles are whole numbers of π/4. No gate's body occurs here.
use Rattle.std.specs.Prelude.{ℕ, zero, suc, List, [], ◌∷◌, length, map}
use Rattle.qt_ring.specs.declared.omega.Omega.{Omega}
use Rattle.qt_ring.specs.Ring.{nil, one, plus, times, minus, conj, imaginary, root_two, root, two_to}

pub record PrintedMatrix : Type 0 where
  pub halvings : ℕ
  pub rows : List (List Omega)

-- ---- numbers

-- e^{ikπ/4} and e^{−ikπ/4}
abbrev pub turned : ℕ → Omega
turned k = root k

abbrev pub turned_back : ℕ → Omega
turned_back k = conj (root k)

-- 2·cos(kπ/4) = e^{ikπ/4} + e^{−ikπ/4}
abbrev pub twice_cos : ℕ → Omega
twice_cos k = plus (turned k) (turned_back k)

-- 2·sin(kπ/4) = −i·(e^{ikπ/4} − e^{−ikπ/4})
abbrev pub twice_sin : ℕ → Omega
twice_sin k = times (minus imaginary) (plus (turned k) (minus (turned_back k)))

-- ---- matrices of two rows

-- [[a, b], [c, d]] / 2^halvings
pub record Square : Type 0 where
  pub halvings : ℕ
  pub a : Omega
  pub b : Omega
  pub c : Omega
  pub d : Omega

abbrev pub square : ℕ → Omega → Omega → Omega → Omega → Square
square halvings a b c d = record { halvings = halvings; a = a; b = b; c = c; d = d }

abbrev pub diagonal : Omega → Omega → Square
diagonal a d = square 0 a nil nil d

-- the gate on one qubit
abbrev pub alone : Square → PrintedMatrix
alone m = record { halvings = m.halvings; rows = (m.a ∷ m.b ∷ []) ∷ (m.c ∷ m.d ∷ []) ∷ [] }

-- the same under one control, whose qubit stands first: 1 above, the matrix below
abbrev pub under_control : Square → PrintedMatrix
under_control m =
    let unit = two_to m.halvings in
    record {
      halvings = m.halvings;
      rows =
          (unit ∷ nil ∷ nil ∷ nil ∷ []) ∷
          (nil ∷ unit ∷ nil ∷ nil ∷ []) ∷
          (nil ∷ nil ∷ m.a ∷ m.b ∷ []) ∷
          (nil ∷ nil ∷ m.c ∷ m.d ∷ []) ∷ [];
    }

-- ---- the gates on one qubit

-- [[1, 0], [0, 1]]
abbrev pub id_square : Square
id_square = diagonal one one

-- [[1, 0], [0, e^{iλ}]], by the number e^{iλ}
abbrev pub p_square : Omega → Square
p_square e = diagonal one e

-- [[0, 1], [1, 0]]
abbrev pub x_square : Square
x_square = square 0 nil one one nil

-- [[0, −i], [i, 0]]
abbrev pub y_square : Square
y_square = square 0 nil (minus imaginary) imaginary nil

-- [[1, 1], [1, −1]] / √2, where 1/√2 = √2/2
abbrev pub h_square : Square
h_square = square 1 root_two root_two root_two (minus root_two)

-- [[1 + i, 1 − i], [1 − i, 1 + i]] / 2
abbrev pub sx_square : Square
sx_square = square 1 (plus one imaginary) (plus one (minus imaginary)) (plus one (minus imaginary)) (plus one imaginary)

-- [[cos(θ/2), −i·sin(θ/2)], [−i·sin(θ/2), cos(θ/2)]], for θ/2 = kπ/4
abbrev pub rx_square : ℕ → Square
rx_square k =
    square 1 (twice_cos k) (times (minus imaginary) (twice_sin k)) (times (minus imaginary) (twice_sin k)) (twice_cos k)

-- [[cos(θ/2), −sin(θ/2)], [sin(θ/2), cos(θ/2)]], for θ/2 = kπ/4
abbrev pub ry_square : ℕ → Square
ry_square k = square 1 (twice_cos k) (minus (twice_sin k)) (twice_sin k) (twice_cos k)

-- [[e^{−iλ/2}, 0], [0, e^{iλ/2}]], for λ/2 = kπ/4
abbrev pub rz_square : ℕ → Square
rz_square k = diagonal (turned_back k) (turned k)

-- U(θ, φ, λ) = [[1 + a, −i·c·(1 − a)], [i·b·(1 − a), b·c·(1 + a)]] / 2, by a = e^{iθ}, b = e^{iφ}, c = e^{iλ}
abbrev pub u_square : Omega → Omega → Omega → Square
u_square a b c =
    square 1
    (plus one a) (times (minus imaginary) (times c (plus one (minus a))))
    (times imaginary (times b (plus one (minus a)))) (times (times b c) (plus one a))

-- a matrix times a number
abbrev pub scaled : Omega → Square → Square
scaled g m = square m.halvings (times m.a g) (times m.b g) (times m.c g) (times m.d g)

-- ---- the gates that only exchange basis states

-- a row of n entries: 1 at place i, and else 0
abbrev pub zeros : ℕ → List Omega
zeros zero = []
zeros (suc n) = nil ∷ zeros n

abbrev pub unit_row : ℕ → ℕ → List Omega
unit_row zero i = []
unit_row (suc n) zero = one ∷ zeros n
unit_row (suc n) (suc i) = nil ∷ unit_row n i

-- the place of the 1 in each row
abbrev pub permutation : List ℕ → PrintedMatrix
permutation places = record { halvings = 0; rows = map (λ i. unit_row (length places) i) places }

-- the states are 00, 01, 10, 11
abbrev pub swap_matrix : PrintedMatrix
swap_matrix = permutation (0 ∷ 2 ∷ 1 ∷ 3 ∷ [])

-- the states are 000, 001 and so on: 110 and 111 are exchanged
abbrev pub ccx_matrix : PrintedMatrix
ccx_matrix = permutation (0 ∷ 1 ∷ 2 ∷ 3 ∷ 4 ∷ 5 ∷ 7 ∷ 6 ∷ [])

-- 101 and 110 are exchanged
abbrev pub cswap_matrix : PrintedMatrix
cswap_matrix = permutation (0 ∷ 1 ∷ 2 ∷ 3 ∷ 4 ∷ 6 ∷ 5 ∷ 7 ∷ [])
