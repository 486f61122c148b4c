-- What the parts of the reader find, over the texts of specs/Form.antt (OpenQASM 3.0 live specification, the sections named
-- there). A part looks for values of one kind, each with a spelling of its own, and tells the value that is spelled, or that
-- none is.
use Rattle.std.specs.Prelude.{◌≡◌, ◌≢◌, ℕ, ◌≤◌, List, ◌++◌, Option, Some, None, Bool, true, false, codes}
use Rattle.std.specs.Borrow.{Bor}
use Rattle.std.specs.Fmt.{decimal}
use Rattle.qt_first.specs.declared.program.Statement.{Statement}
use Rattle.qt_first.specs.declared.read.Registers.{Registers}
use Rattle.qt_first.specs.declared.program.Statement.TheVariants.{ControlledX, Measure}
use Rattle.qt_first.specs.Form.{element, head_text, line, statement_text, IsPlaced}

-- the text is the spelling of the value that was found; with none found, it is that of no fitting value
abbrev pub IsSpelledBy : {A : Type 0} → (A → Type 0) → (A → List ℕ) → List ℕ → Option A → Type 0
IsSpelledBy {A} IsFitting spelling text None = (value : A) → IsFitting value → text ≢ spelling value
IsSpelledBy IsFitting spelling text (Some value) = IsFitting value × (text ≡ spelling value)

-- the text begins with the spelling of the value that was found, and the rest follows; with none found, it begins with that of no
-- fitting value
abbrev pub BeginsWith : {A : Type 0} → (A → Type 0) → (A → List ℕ) → List ℕ → Option (A × Bor (List ℕ)) → Type 0
BeginsWith {A} IsFitting spelling text None = (value : A) (rest : List ℕ) → IsFitting value → text ≢ spelling value ++ rest
BeginsWith IsFitting spelling text (Some found) = IsFitting found.0 × (text ≡ spelling found.0 ++ found.1.now)

-- each register has from one to four places
pub record IsSized (registers : Registers) : Type 0 where
  pub some_qubits : 1 ≤ registers.qubits
  pub few_qubits : registers.qubits ≤ 4
  pub some_bits : 1 ≤ registers.bits
  pub few_bits : registers.bits ≤ 4

-- a number behind an opening
abbrev pub number_text : List ℕ → ℕ → List ℕ
number_text opening number = opening ++ decimal number

-- the lines that declare such registers, with the two lines before them
abbrev pub registers_text : Registers → List ℕ
registers_text registers = head_text registers.qubits registers.bits

-- a size that a register may have
abbrev pub IsSize : ℕ → Type 0
IsSize size = (1 ≤ size) × (size ≤ 4)

-- the line of a gate on one qubit
abbrev pub single_gate_text : List ℕ → ℕ → List ℕ
single_gate_text name qubit = line (name ++ codes " " ++ element (codes "q") qubit ++ codes ";")

-- the two qubits of a controlled gate, the control first, and its line
abbrev pub AreControlAndTarget : ℕ → ℕ × ℕ → Type 0
AreControlAndTarget qubits places = IsPlaced qubits 0 (ControlledX places.0 places.1)

abbrev pub controlled_x_text : ℕ × ℕ → List ℕ
controlled_x_text places = statement_text (ControlledX places.0 places.1)

-- the qubit and the bit of a measurement, and its line
abbrev pub AreQubitAndBit : Registers → ℕ × ℕ → Type 0
AreQubitAndBit registers places = IsPlaced registers.qubits registers.bits (Measure places.0 places.1)

abbrev pub measurement_text : ℕ × ℕ → List ℕ
measurement_text places = statement_text (Measure places.0 places.1)

abbrev pub is_measurement : Statement → Bool
is_measurement (Measure qubit bit) = true
is_measurement _ = false
