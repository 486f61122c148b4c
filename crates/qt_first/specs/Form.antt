-- Texts of the first form: exactly the lines below, each ended by one line feed, with decimal numbers without leading zeros
-- and the blanks as shown (OpenQASM 3.0 live specification, "Version string", "Include statements", "Quantum types",
-- "Classical types", "Gates", "Measurement"). A text has the form where it is the text of a program within the limits.
use Rattle.std.specs.Prelude.{◌≡◌, ◌≢◌, ℕ, suc, ◌<◌, ◌≤◌, List, [], ◌∷◌, ◌++◌, length, codes, Option, Some, None}
use Rattle.std.specs.Fmt.{decimal}
use Rattle.std.specs.List.{flat_map}
use Rattle.qt_first.specs.declared.program.Statement.{Statement}
use Rattle.qt_first.specs.declared.program.Statement.TheVariants.{Hadamard, T, X, ControlledX, Measure}
use Rattle.qt_first.specs.declared.program.Program.{Program}

abbrev pub line : List ℕ → List ℕ
line text = text ++ 10 ∷ []

abbrev pub element : List ℕ → ℕ → List ℕ
element name index = name ++ codes "[" ++ decimal index ++ codes "]"

abbrev pub statement_text : Statement → List ℕ
statement_text (Hadamard q) = line (codes "h " ++ element (codes "q") q ++ codes ";")
statement_text (T q) = line (codes "t " ++ element (codes "q") q ++ codes ";")
statement_text (X q) = line (codes "x " ++ element (codes "q") q ++ codes ";")
statement_text (ControlledX c t) = line (codes "cx " ++ element (codes "q") c ++ codes ", " ++ element (codes "q") t ++ codes ";")
statement_text (Measure q b) = line (element (codes "c") b ++ codes " = measure " ++ element (codes "q") q ++ codes ";")

-- the four lines before the statements
abbrev pub head_text : ℕ → ℕ → List ℕ
head_text qubits bits =
    line (codes "OPENQASM 3.0;") ++ line (codes "include \"stdgates.inc\";")
    ++ line (codes "qubit[" ++ decimal qubits ++ codes "] q;") ++ line (codes "bit[" ++ decimal bits ++ codes "] c;")

abbrev pub program_text : Program → List ℕ
program_text p = head_text p.qubits p.bits ++ flat_map statement_text p.statements

-- the indexes of a statement lie in registers of so many qubits and bits, and those of a gate differ
abbrev pub IsPlaced : ℕ → ℕ → Statement → Type 0
IsPlaced qubits bits (Hadamard q) = q < qubits
IsPlaced qubits bits (T q) = q < qubits
IsPlaced qubits bits (X q) = q < qubits
IsPlaced qubits bits (ControlledX c t) = (c < qubits) × (t < qubits) × (c ≢ t)
IsPlaced qubits bits (Measure q b) = (q < qubits) × (b < bits)

abbrev pub ArePlaced : ℕ → ℕ → List Statement → Type 0
ArePlaced qubits bits [] = Unit {0}
ArePlaced qubits bits (s ∷ ss) = IsPlaced qubits bits s × ArePlaced qubits bits ss

abbrev pub measurements : List Statement → ℕ
measurements [] = 0
measurements (Measure q b ∷ ss) = suc (measurements ss)
measurements (_ ∷ ss) = measurements ss

-- the limits of the first form
pub record IsWithinLimits (p : Program) : Type 0 where
  pub some_qubits : 1 ≤ p.qubits
  pub few_qubits : p.qubits ≤ 4
  pub some_bits : 1 ≤ p.bits
  pub few_bits : p.bits ≤ 4
  pub few_statements : length p.statements ≤ 32
  pub few_measurements : measurements p.statements ≤ 12
  pub placed : ArePlaced p.qubits p.bits p.statements

-- the text is that of the program, which is within the limits
pub record IsFirstFormText (p : Program) (text : List ℕ) : Type 0 where
  pub spelled : text ≡ program_text p
  pub limits : IsWithinLimits p

-- what a reader tells of a text: the program whose text it is, or that it is the text of none
abbrev pub Reads : List ℕ → Option Program → Type 0
Reads text None = (p : Program) → ¬ IsFirstFormText p text
Reads text (Some p) = IsFirstFormText p text
