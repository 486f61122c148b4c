-- Full matrices on qubits: products, the identity, a matrix under control, and the embedding of a matrix on chosen qubits
-- into all qubits of a program (OpenQASM 3.0 live specification, "Gates": hierarchically defined gates, control modifiers;
-- Cross et al. 2022). A matrix is a function of two basis states, the row and the column.
use Rattle.std.specs.Prelude.{◌≡◌, ℕ, zero, suc, ◌+◌, Bool, true, false, List, [], ◌∷◌, length}
use Rattle.qt_ring.specs.declared.omega.Omega.{Omega}
use Rattle.qt_ring.specs.Ring.{nil, one, plus, times, minus, conj, imaginary, two_to, root}
use Rattle.qt_ring.specs.Places.{Bits, get, agree_outside}

abbrev pub Matrix : Type 0
Matrix = Bits → Bits → Omega

-- the number where the condition holds, and else 0
abbrev pub kept : Bool → Omega → Omega
kept true a = a
kept false a = nil

abbrev pub same : Bits → Bits → Bool
same [] [] = true
same (true ∷ x) (true ∷ y) = same x y
same (false ∷ x) (false ∷ y) = same x y
same _ _ = false

-- the sum over all basis states of n qubits
abbrev pub sum : ℕ → (Bits → Omega) → Omega
sum zero f = f []
sum (suc n) f = plus (sum n (λ x. f (false ∷ x))) (sum n (λ x. f (true ∷ x)))

abbrev pub product : ℕ → Matrix → Matrix → Matrix
product n a b x y = sum n (λ z. times (a x z) (b z y))

-- the conjugate transpose
abbrev pub adjoint : Matrix → Matrix
adjoint m x y = conj (m y x)

-- 2^h on the diagonal
abbrev pub identity : ℕ → Matrix
identity h x y = kept (same x y) (two_to h)

-- one more qubit in front of the matrix's own: where it is 0 nothing happens, where it is 1 the matrix acts
abbrev pub ctrl : ℕ → Matrix → Matrix
ctrl h m (true ∷ x) (true ∷ y) = m x y
ctrl h m (false ∷ x) (false ∷ y) = identity h x y
ctrl h m _ _ = nil

-- the same, but where the qubit is 1 nothing happens, and where it is 0 the matrix acts
abbrev pub negctrl : ℕ → Matrix → Matrix
negctrl h m (true ∷ x) (true ∷ y) = identity h x y
negctrl h m (false ∷ x) (false ∷ y) = m x y
negctrl h m _ _ = nil

-- a matrix on the chosen qubits as a matrix on all: its entry at the chosen bits where all other bits agree, and else 0
abbrev pub embedded : Matrix → List ℕ → Matrix
embedded m qs x y = kept (agree_outside 0 qs x y) (m (get qs x) (get qs y))

-- twice the matrix of U(θ, φ, λ), for a = e^{iθ}, b = e^{iφ}, c = e^{iλ}:
--   2·U = [[1 + a, −i·c·(1 − a)], [i·b·(1 − a), b·c·(1 + a)]]
abbrev pub twice_u : Omega → Omega → Omega → Matrix
twice_u a b c (false ∷ []) (false ∷ []) = plus one a
twice_u a b c (false ∷ []) (true ∷ []) = times (minus imaginary) (times c (plus one (minus a)))
twice_u a b c (true ∷ []) (false ∷ []) = times imaginary (times b (plus one (minus a)))
twice_u a b c (true ∷ []) (true ∷ []) = times (times b c) (plus one a)
twice_u a b c _ _ = nil

-- a unitary on so many qubits: whole entries, each to be halved so many times. Nothing is ever reduced
pub record Operator : Type 0 where
  pub size : ℕ
  pub halvings : ℕ
  pub entries : Matrix

-- its product with its conjugate transpose, in either order, is 1: as it stands over 2^halvings, 4^halvings
pub record IsUnitary (g : Operator) : Type 0 where
  pub rows : (x y : Bits) → length x ≡ g.size → length y ≡ g.size → product g.size g.entries (adjoint g.entries) x y ≡ identity (g.halvings + g.halvings) x y
  pub columns : (x y : Bits) → length x ≡ g.size → length y ≡ g.size → product g.size (adjoint g.entries) g.entries x y ≡ identity (g.halvings + g.halvings) x y

-- U with its three angles in eighths of a turn
abbrev pub u_gate : ℕ → ℕ → ℕ → Operator
u_gate theta phi lambda = record { size = 1; halvings = 1; entries = twice_u (root theta) (root phi) (root lambda) }

-- a global phase, on no qubits
abbrev pub phase_gate : ℕ → Operator
phase_gate gamma = record { size = 0; halvings = 0; entries = λ x y. root gamma }

abbrev pub controlled : Operator → Operator
controlled g = record { size = suc g.size; halvings = g.halvings; entries = ctrl g.halvings g.entries }

-- a gate's body on k qubits, by its calls in order: each a gate and the body's qubits that it acts on
abbrev pub body : ℕ → List (Operator × List ℕ) → Operator
body k [] = record { size = k; halvings = 0; entries = identity 0 }
body k (call ∷ calls) =
    let rest = body k calls in
    record { size = k; halvings = rest.halvings + call.0.halvings; entries = product k rest.entries (embedded call.0.entries call.1) }
