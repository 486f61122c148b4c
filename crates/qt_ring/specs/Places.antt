-- Basis states as lists of bits, qubit 0 first, and their numbers: bit j of an entry's number is the bit of qubit j
-- (OpenQASM 3.0 live specification, "Types and Casting", quantum types: qubits of a register are numbered from 0).
use Rattle.std.specs.Prelude.{ℕ, zero, suc, ◌+◌, ◌*◌, ◌/◌, ◌%◌, ◌<◌, ◌≢◌, Bool, true, false, nat_eq, ◌||◌, ◌&&◌, List, [], ◌∷◌}

-- a basis state of so many qubits: one bit for each
abbrev pub Bits : Type 0
Bits = List Bool

-- the bit of a qubit
abbrev pub at : ℕ → Bits → Bool
at q [] = false
at zero (b ∷ x) = b
at (suc q) (b ∷ x) = at q x

-- the bits of the chosen qubits, in the order of the choice
abbrev pub get : List ℕ → Bits → Bits
get [] x = []
get (q ∷ qs) x = at q x ∷ get qs x

abbrev pub equal_bits : Bool → Bool → Bool
equal_bits true true = true
equal_bits false false = true
equal_bits _ _ = false

abbrev pub chosen : ℕ → List ℕ → Bool
chosen q [] = false
chosen q (r ∷ rs) = nat_eq q r || chosen q rs

-- from qubit p on, x and y agree in all bits but those of the chosen qubits
abbrev pub agree_outside : ℕ → List ℕ → Bits → Bits → Bool
agree_outside p qs [] [] = true
agree_outside p qs (a ∷ x) (b ∷ y) = (chosen p qs || equal_bits a b) && agree_outside (suc p) qs x y
agree_outside p qs _ _ = false

abbrev pub is_one : ℕ → Bool
is_one zero = false
is_one (suc n) = true

abbrev pub digit : Bool → ℕ
digit false = 0
digit true = 1

-- the n lowest bits of a number, the lowest first
abbrev pub bits_of : ℕ → ℕ → Bits
bits_of zero i = []
bits_of (suc n) i = is_one (i % 2) ∷ bits_of n (i / 2)

-- the number of a basis state
abbrev pub number : Bits → ℕ
number [] = 0
number (b ∷ x) = number x * 2 + digit b

-- the qubit is none of these
abbrev pub Free : ℕ → List ℕ → Type 0
Free q [] = Unit {0}
Free q (r ∷ rs) = (q ≢ r) × Free q rs

-- different qubits, each below n
abbrev pub AreQubits : ℕ → List ℕ → Type 0
AreQubits n [] = Unit {0}
AreQubits n (q ∷ qs) = (q < n) × Free q qs × AreQubits n qs
