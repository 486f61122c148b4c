-- The standard gates have the matrices that are printed (OpenQASM 3.0 live specification, "Standard library"; Cross et al. 2022). The
-- matrix of a call is that of its body, a product of matrices of U and gphase.
use Rattle.std.specs.Prelude.{◌≡◌, ℕ, zero, suc, ◌*◌, ◌^◌, pos, neg_ℤ, if◌then◌else◌, false, true, List, [], ◌∷◌, ◌++◌, map, Some, bytes_eq, codes}
use Rattle.qt_ring.specs.declared.omega.Omega.{Omega}
use Rattle.qt_ring.specs.Ring.{times, two_to, root}
use Rattle.qt_ring.specs.Places.{Bits}
use Rattle.qt_ring.specs.Matrix.{Operator}
use Rattle.qt_gate_calls.specs.declared.body.Called.TheVariants as called
use Rattle.qt_gate_calls.specs.Units.{KnownUnits, of_one, of_two, sum_of, difference_of, negative_of, quotient_of, circle}
use Rattle.qt_gate_calls.specs.Matrices.{matrices_of, call_matrix}
use Rattle.qt_gate_calls.specs.Standard.{StandardGate, standard_gates, standard_bodies}
use Rattle.qt_gates.specs.Printed.{PrintedMatrix, Square, alone, under_control, id_square, p_square, x_square, y_square, h_square, sx_square, rx_square, ry_square, rz_square, u_square, scaled, swap_matrix, ccx_matrix, cswap_matrix}

-- ---- calls of standard gates

-- the number of the first row of that name
abbrev pub number_in : List StandardGate → List ℕ → ℕ
number_in [] name = 0
number_in (g ∷ gates) name = if bytes_eq name g.name then 0 else suc (number_in gates name)

-- the matrix of a call of the standard gate of that name, without modifiers, at these angles
abbrev pub standard_matrix : List ℕ → List KnownUnits → Operator
standard_matrix name angles = call_matrix (matrices_of standard_bodies) [] (called.Gate (number_in standard_gates name)) angles

-- so many times π/4
abbrev pub eighths : ℕ → KnownUnits
eighths k = Some (pos (k * 2 ^ 30))

abbrev pub EachEighth : (ℕ → Type 0) → Type 0
EachEighth P = P 0 × P 1 × P 2 × P 3 × P 4 × P 5 × P 6 × P 7

-- ---- a matrix and what is printed

-- the basis states in the order of a printed matrix: the first qubit's bit counts most
abbrev pub basis : ℕ → List Bits
basis zero = [] ∷ []
basis (suc n) = map (λ x. false ∷ x) (basis n) ++ map (λ x. true ∷ x) (basis n)

abbrev pub rows_of : Operator → List (List Omega)
rows_of g = map (λ x. map (λ y. g.entries x y) (basis g.size)) (basis g.size)

-- each entry times 2^h
abbrev pub doubled : ℕ → List (List Omega) → List (List Omega)
doubled h rows = map (λ row. map (λ a. times (two_to h) a) row) rows

-- both stand for one matrix, and neither is reduced
abbrev pub IsPrinted : Operator → PrintedMatrix → Type 0
IsPrinted g m = doubled m.halvings (rows_of g) ≡ doubled g.halvings m.rows

abbrev pub Prints : List ℕ → List KnownUnits → PrintedMatrix → Type 0
Prints name angles m = IsPrinted (standard_matrix name angles) m

-- ---- the table

-- gates without parameters on one qubit
abbrev pub FixedGatesArePrinted : Type 0
FixedGatesArePrinted =
    Prints (codes "id") [] (alone id_square)
    × Prints (codes "z") [] (alone (p_square (root 4)))
    × Prints (codes "s") [] (alone (p_square (root 2)))
    × Prints (codes "t") [] (alone (p_square (root 1)))
    × Prints (codes "sdg") [] (alone (p_square (root 6)))
    × Prints (codes "tdg") [] (alone (p_square (root 7)))
    × Prints (codes "x") [] (alone x_square)
    × Prints (codes "y") [] (alone y_square)
    × Prints (codes "h") [] (alone h_square)
    × Prints (codes "sx") [] (alone sx_square)

-- the same under control
abbrev pub ControlledGatesArePrinted : Type 0
ControlledGatesArePrinted =
    Prints (codes "cx") [] (under_control x_square)
    × Prints (codes "CX") [] (under_control x_square)
    × Prints (codes "cy") [] (under_control y_square)
    × Prints (codes "cz") [] (under_control (p_square (root 4)))
    × Prints (codes "ch") [] (under_control h_square)

abbrev pub PermutationsArePrinted : Type 0
PermutationsArePrinted =
    Prints (codes "swap") [] swap_matrix
    × Prints (codes "ccx") [] ccx_matrix
    × Prints (codes "cswap") [] cswap_matrix

-- phases at every angle: e^{iλ} is 1 where λ isn't known or is no multiple of π/4, as everywhere in matrices
abbrev pub PhasesArePrinted : Type 0
PhasesArePrinted =
    (lambda : KnownUnits) →
    Prints (codes "p") (lambda ∷ []) (alone (p_square (circle lambda)))
    × Prints (codes "phase") (lambda ∷ []) (alone (p_square (circle lambda)))
    × Prints (codes "u1") (lambda ∷ []) (alone (p_square (circle lambda)))
    × Prints (codes "cp") (lambda ∷ []) (under_control (p_square (circle lambda)))
    × Prints (codes "cphase") (lambda ∷ []) (under_control (p_square (circle lambda)))

-- rotations at 2·kπ/4, for each k: their phase is a multiple of π/4 only at such angles
abbrev pub RotationsArePrinted : Type 0
RotationsArePrinted =
    EachEighth (λ k. Prints (codes "rx") (eighths (2 * k) ∷ []) (alone (rx_square k)))
    × EachEighth (λ k. Prints (codes "ry") (eighths (2 * k) ∷ []) (alone (ry_square k)))
    × EachEighth (λ k. Prints (codes "crx") (eighths (2 * k) ∷ []) (under_control (rx_square k)))
    × EachEighth (λ k. Prints (codes "cry") (eighths (2 * k) ∷ []) (under_control (ry_square k)))
    × EachEighth (λ k. Prints (codes "rz") (eighths (2 * k) ∷ []) (alone (rz_square k)))
    × EachEighth (λ k. Prints (codes "crz") (eighths (2 * k) ∷ []) (under_control (rz_square k)))

-- ---- U times a number: at every angle, as above

-- −a/2
abbrev pub half_back : KnownUnits → KnownUnits
half_back a = of_one (quotient_of (pos 2)) (of_one negative_of a)

-- a + b
abbrev pub sum : KnownUnits → KnownUnits → KnownUnits
sum a b = of_two sum_of a b

-- γ − θ/2
abbrev pub less_half : KnownUnits → KnownUnits → KnownUnits
less_half gamma theta = of_two difference_of gamma (of_one (quotient_of (pos 2)) theta)

-- −π/2
abbrev pub quarter_back : KnownUnits
quarter_back = Some (neg_ℤ (pos (2 ^ 31)))

-- e^{iγ}·U(θ, φ, λ)
abbrev pub turned_square : KnownUnits → KnownUnits → KnownUnits → KnownUnits → Square
turned_square gamma theta phi lambda = scaled (circle gamma) (u_square (circle theta) (circle phi) (circle lambda))

-- e^{−iθ/2}·U(θ, −π/2, π/2), e^{−iθ/2}·U(θ, 0, 0), e^{−i(φ+λ+π/2)/2}·U(π/2, φ, λ), e^{−i(θ+φ+λ)/2}·U(θ, φ, λ)
abbrev pub TurnsArePrinted : Type 0
TurnsArePrinted =
    (theta phi lambda : KnownUnits) →
    Prints (codes "rx") (theta ∷ []) (alone (turned_square (half_back theta) theta quarter_back (eighths 2)))
    × Prints (codes "ry") (theta ∷ []) (alone (turned_square (half_back theta) theta (eighths 0) (eighths 0)))
    × Prints (codes "u2") (phi ∷ lambda ∷ []) (alone (turned_square (half_back (sum (sum phi lambda) (eighths 2))) (eighths 2) phi lambda))
    × Prints (codes "u3") (theta ∷ phi ∷ lambda ∷ []) (alone (turned_square (half_back (sum (sum theta phi) lambda)) theta phi lambda))

-- rx and ry under control, and e^{i(γ−θ/2)}·U(θ, φ, λ) under control
abbrev pub ControlledTurnsArePrinted : Type 0
ControlledTurnsArePrinted =
    (theta phi lambda gamma : KnownUnits) →
    Prints (codes "crx") (theta ∷ []) (under_control (turned_square (half_back theta) theta quarter_back (eighths 2)))
    × Prints (codes "cry") (theta ∷ []) (under_control (turned_square (half_back theta) theta (eighths 0) (eighths 0)))
    × Prints (codes "cu") (theta ∷ phi ∷ lambda ∷ gamma ∷ []) (under_control (turned_square (less_half gamma theta) theta phi lambda))
